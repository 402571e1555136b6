-- A reply that tells to come back: how long it is, and that it reads back.
use mathlib.Core.Path.{◌≡◌, sym, ap, ◌∙◌}
use mathlib.Core.List.{List, [], append-nil}
use Rattle.std.specs.Prelude.{None, Some, Ok}
use Rattle.octets.proofs.Options.{some-injective}
use Prim.Native.Nat.{ℕ, ◌+◌, ◌*◌, ◌/◌, ◌%◌, ◌^◌, ◌<◌, ◌≤◌}
use native.Mathlib.Omega.{arith}
use borrow.Author.Tests.{le-leb}
use lib.ListN.{length, drop, length-append}
use Rattle.octets.specs.Numbers.{octets}
use Rattle.elements.specs.declared.Part.{Part}
use Rattle.elements.proofs.Written.{written_none, written_more}
use Rattle.scan.specs.declared.Times.TheVariants.{Never, One}
use Rattle.scan.specs.Scan.{places_of, scan_by, scan_of}
use Rattle.scan.proofs.Scanning.{in_body}
use Rattle.parameters.specs.declared.Side.TheVariants.{AccessPoint}
use Rattle.parameters.specs.Parameters.{Said, content_octets, parameters_octets}
use Rattle.parameters.proofs.Inverse.{written_reads_back}
use Rattle.parameters.proofs.Laws.{length_come_back, after_the_extension}
use Rattle.elements.specs.Lies.{content}
use Rattle.frames.specs.Contents.{extended}
use Rattle.writers.specs.Comeback.{comeback_reply, comeback_size}
use Rattle.writers.specs.ComebackRead.{comeback_in}
use Rattle.writers.specs.Header.{header_octets}
use Rattle.writers.proofs.header.Laws.{length_header, header_reads_back}
use Rattle.writers.proofs.second.ReadBack.{part_content}

module _ (algorithm status after : ℕ) (cookie : List ℕ) where
  abbrev s : List ℕ
  s = comeback_reply algorithm status after cookie

  -- the pieces, in their order
  abbrev header : List ℕ
  header = header_octets algorithm 2 status

  abbrev said : Said AccessPoint
  said = record { comeback = Some (after, cookie); format = 0; offer = None }

  abbrev parameters : List ℕ
  parameters = parameters_octets AccessPoint said

  pub length_comeback : length s ≡ comeback_size (length cookie)
  unfolding comeback_reply
  length_comeback = simp (length-append, length_header, length_come_back) (omega arith)

  -- the part that the element's content occupies
  abbrev in_parameters : Part
  in_parameters = record { start = 8; end = length cookie + 14 }

  scanned : length s ≤ 1024
      → scan_of s ≡ Ok (record { rsne = Never; timeout = Never; mic = Never; fragment = Never; parameters = One in_parameters; wrapped = Never })
  unfolding comeback_reply parameters_octets places_of
  scanned h =
      let w₀ = written_none header {n = 6} (length_header algorithm 2 status) in
      let w₁ = written_more w₀ 255 (length (content_octets AccessPoint said) + 1) (drop 2 parameters) in_parameters (omega (arith, length_come_back 0 after cookie)) in
      in_body s (omega (arith, length_comeback)) h ∙ ap scan_by w₁.walks

  parameters_content : content s (extended in_parameters) ≡ drop 3 parameters
  unfolding comeback_reply
  parameters_content = part_content s header parameters [] 3 (extended in_parameters) (sym (append-nil s)) (simp (length_header, length_come_back) (omega arith))

  reads : algorithm < 2 ^ 16 → status < 2 ^ 16 → after < 2 ^ 16 → length cookie ≤ 32
      → comeback_in s ≡ Some (record { algorithm = algorithm; transaction = 2; status = status; after = after; cookie = cookie })
  unfolding comeback_in comeback_reply
  reads a t n c =
      let fits : length s ≤ 1024 = omega (arith, length_comeback) in
      let back = written_reads_back AccessPoint said n tt in
      let told = some-injective _ _ (ap (λ (x : Said AccessPoint). x.comeback) back.says) in
      rw (
        header_reads_back algorithm 2 status a (omega arith) t parameters (omega (arith, length_come_back 0 after cookie)),
        scanned fits,
        parameters_content,
        after_the_extension AccessPoint said,
        back.reads,
        ap (λ (x : ℕ × List ℕ). x.1) told,
        le-leb _ _ c,
      )

-- Of Comeback After the low two octets are written.
octet_of : (q x : ℕ) → (256 * q + x) % 256 ≡ x % 256
octet_of q x = omega arith

two_octets : (n : ℕ) → octets 2 n ≡ octets 2 (n % 2 ^ 16)
unfolding octets
two_octets n =
    let low : n % 256 ≡ n % 2 ^ 16 % 256 = omega arith in
    let above : n / 256 ≡ 256 * (n / 2 ^ 16) + n % 2 ^ 16 / 256 = omega arith in
    let high : n / 256 % 256 ≡ n % 2 ^ 16 / 256 % 256 = ap (λ (x : ℕ). x % 256) above ∙ octet_of (n / 2 ^ 16) (n % 2 ^ 16 / 256) in
    rw (low, high)

low_octets : (algorithm status after : ℕ) (cookie : List ℕ) → comeback_reply algorithm status after cookie ≡ comeback_reply algorithm status (after % 2 ^ 16) cookie
unfolding comeback_reply parameters_octets content_octets
low_octets algorithm status after cookie = rw (two_octets after)

-- numbers of two octets, and a cookie of at most 32
pub comeback_reads_back : (algorithm status after : ℕ) (cookie : List ℕ) → algorithm < 2 ^ 16 → status < 2 ^ 16 → length cookie ≤ 32
    → comeback_in (comeback_reply algorithm status after cookie)
    ≡ Some (record { algorithm = algorithm; transaction = 2; status = status; after = after % 2 ^ 16; cookie = cookie })
comeback_reads_back algorithm status after cookie a t c =
    ap comeback_in (low_octets algorithm status after cookie) ∙ reads algorithm status (after % 2 ^ 16) cookie a t (omega arith) c
