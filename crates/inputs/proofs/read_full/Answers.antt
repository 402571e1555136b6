use Rattle.std.proofs.Common.{◌≡◌, ℕ, ◌+◌, ◌-◌, ◌≤◌, List, ◌++◌, length, take, rules, sym, ap, ◌∙◌, subst, length-take-le}
use Rattle.std.proofs.KnownBytes.{Consumes-trans}
use Rattle.std.proofs.Math.Seq.{take-append-add}
use Rattle.std.proofs.lemmas.List.{take-append-le}
use Rattle.std.specs.Io.KnownBytes.{Consumes}
use Rattle.inputs.proofs.read_full.Goals as goal
use borrow.Rule.Slice.PartMut.{put_mid, post_of}

-- The front of what a read leaves, which put n octets after the first a.
taken_more : (a k n : ℕ) (xs ys : List ℕ) → a ≤ length xs → n ≤ length ys → take (a + n) (put_mid a k xs ys) ≡ take a xs ++ take n ys
taken_more a k n xs ys within fits =
    subst (λ m. take (m + n) (put_mid a k xs ys) ≡ take a xs ++ take n ys) (length-take-le a xs within)
    (take-append-add (take a xs) (ys ++ post_of a k xs) n ∙ ap (λ t. take a xs ++ t) (take-append-le n ys (post_of a k xs) fits))

pub loop-done-preserved : goal.loop-done-preserved
loop-done-preserved g c =
    let l = c.loop-done in
    let read = c.in_ok-n.ensures in
    let same = taken_more l.done (length l.buffer - l.done) c.in_ok-n.n l.buffer c.read.new.buf l.invariant.0 read.bound.0 in
    (search rules, subst (Consumes _ _) (sym same) (Consumes-trans _ _ _ _ _ l.invariant.1 read.bytes.0))
