use Rattle.std.proofs.Common.{◌≡◌, length, refl, ◌∙◌, rules}
use Rattle.octets.proofs.Numbers.{length_octets}
use Rattle.octets.proofs.Parts.{wrote_none}
use Rattle.octets.proofs.Writers.{more}
use Rattle.records.specs.Record.{octets_of}
use Rattle.records.proofs.Told.{yes_cast, told}
use Rattle.records.proofs.put.Goals as goal

pub returns : goal.returns
unfolding octets_of
returns c =
    let p = c.args.p in
    let address : length p.address ≡ 6 = search rules in
    let pmkid : length p.pmkid ≡ 16 = search rules in
    let head = more (more (more (more (wrote_none _) c.copy_in.ensures address) c.copy_in-2.ensures refl) c.copy_in-3.ensures pmkid) c.copy_in-4.ensures refl in
    let whole = more (more head c.put_le.ensures (length_octets 4 _)) c.put_le-2.ensures (length_octets 8 _) in
    record {
      wrote = rw (← (c.from.ensures ∙ yes_cast _), ← c.phase_number.ensures, ← c.until-until.ensures) whole;
      reads = told p address pmkid (search rules) (search rules);
    }
