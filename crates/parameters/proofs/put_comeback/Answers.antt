use native.Mathlib.Omega.{arith}
use Rattle.octets.specs.Numbers.{octets}
use Rattle.octets.proofs.Parts.{wrote_none}
use Rattle.parameters.proofs.put_comeback.Goals as goal

pub put_counted-requires : goal.put_counted-requires
put_counted-requires c =
    let f = rw c.in-Cookie.is at rw c.in-Some.is at c.requires in
    (omega (arith, f.short), omega (arith, f.room))

pub put_numbered-requires : goal.put_numbered-requires
unfolding octets
put_numbered-requires c =
    let f = rw c.in-After.is at rw c.in-Some.is at c.requires in
    (omega (arith, f.short), omega (arith, f.room))

pub returns-in_default : goal.returns-in_default
returns-in_default c = rw c.in_default.is (wrote_none _)

pub returns-in-Cookie : goal.returns-in-Cookie
returns-in-Cookie c = rw c.in-Some.is (rw c.in-Cookie.is c.put_counted.ensures)

pub returns-in-After : goal.returns-in-After
returns-in-After c = rw c.in-Some.is (rw c.in-After.is c.put_numbered.ensures)
