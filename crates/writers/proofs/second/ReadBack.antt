-- A second frame, read back, shows exactly what was chosen.
use mathlib.Core.Path.{◌≡◌, refl, sym, ap, ◌∙◌}
use mathlib.Core.List.{List, [], ◌++◌, append_assoc, append-nil}
use Rattle.std.specs.Prelude.{None, Some, Ok}
use Rattle.octets.proofs.Options.{some-injective}
use Prim.Native.Nat.{ℕ, ◌+◌, ◌-◌, ◌*◌, ◌^◌, ◌<◌, ◌≤◌}
use native.Mathlib.Nat.{add-sub_cancel}
use native.Mathlib.Omega.{arith}
use lib.ListN.{length, drop, replicate, length-drop}
use lib.Seq.{take_at, drop-append-add, drop-append-le}
use Rattle.octets.specs.Numbers.{octets}
use Rattle.elements.specs.declared.Part.{Part}
use Rattle.scan.specs.declared.Times.TheVariants.{Never, One}
use Rattle.elements.specs.Body.{body_of}
use Rattle.scan.specs.Scan.{places_of, scan_by, scan_of}
use Rattle.scan.proofs.Scanning.{in_body}
use Rattle.elements.proofs.Written.{written_none, written_more}
use Rattle.suites.specs.declared.Suite.TheVariants.{Ours}
use Rattle.layouts.specs.Mic.{mic_octets}
use Rattle.parameters.specs.declared.Side.TheVariants.{AccessPoint}
use Rattle.parameters.specs.Parameters.{Said, content_octets, parameters_octets}
use Rattle.rsne.specs.Rsne.{rsne_octets}
use Rattle.layouts.specs.Timeout.{timeout_octets}
use Rattle.layouts.proofs.mic.Laws.{length_mic, mic_content as mic_zeros}
use Rattle.parameters.proofs.Inverse.{written_reads_back}
use Rattle.parameters.proofs.Laws.{length_with_key, after_the_extension}
use Rattle.rsne.proofs.Laws.{length_rsne, rsne_reads_back, pmkids_content}
use Rattle.layouts.proofs.timeout.Laws.{length_timeout, timeout_reads_back}
use Rattle.writers.specs.declared.second.Chosen.{Chosen}
use Rattle.elements.specs.Lies.{content}
use Rattle.frames.specs.Contents.{extended}
use Rattle.writers.specs.Header.{header_octets}
use Rattle.writers.specs.Second.{second_octets}
use Rattle.writers.specs.SecondRead.{second_of}
use Rattle.writers.proofs.header.Laws.{length_header, header_reads_back}
use Rattle.writers.proofs.second.Laws.{lengths, length_second}

-- the octets of an element in a string, from the k-th on
pub part_content : (s before w after : List ℕ) (k : ℕ) (p : Part) → s ≡ before ++ w ++ after
    → (k ≤ length w) × (p.start ≡ length before + k) × (p.end ≡ length before + length w) → content s p ≡ drop k w
part_content s before w after k p is (h, a, b) =
    rw (is, a, b, append_assoc, drop-append-add, drop-append-le) (take_at (drop k w) after (length before + length w - (length before + k)) (omega (arith, length-drop k w)))

-- What fits the layouts: numbers of two octets, a lifetime of four that is not 0, lengths of one, and p whole PMKIDs.
pub record Readable (chosen : Chosen) (pmkids key : List ℕ) (p : ℕ) : Type 0 where
  pub algorithm : chosen.algorithm < 2 ^ 16
  pub group : chosen.group < 2 ^ 16
  pub asked : 0 < chosen.lifetime.0
  pub lifetime : chosen.lifetime.0 < 2 ^ 32
  pub mic : chosen.mic < 256
  pub whole_pmkids : length pmkids ≡ 16 * p
  pub pmkids_fit : length pmkids < 230
  pub key_fits : length key < 250

module _ (chosen : Chosen) (pmkids key : List ℕ) where
  abbrev s : List ℕ
  s = second_octets chosen pmkids key

  -- the pieces, in their order
  abbrev header : List ℕ
  header = header_octets chosen.algorithm 2 0

  abbrev rsne : List ℕ
  rsne = rsne_octets chosen.cipher chosen.akm pmkids

  abbrev timeout : List ℕ
  timeout = timeout_octets chosen.lifetime

  abbrev said : Said AccessPoint
  said = record { comeback = None; format = 0; offer = Some (chosen.group, key) }

  abbrev parameters : List ℕ
  parameters = parameters_octets AccessPoint said

  abbrev mic : List ℕ
  mic = mic_octets chosen.mic

  -- the parts that the elements' contents occupy
  abbrev in_rsne : Part
  in_rsne = record { start = 8; end = length pmkids + 34 }

  abbrev in_timeout : Part
  in_timeout = record { start = length pmkids + 36; end = length pmkids + 41 }

  abbrev in_parameters : Part
  in_parameters = record { start = length pmkids + 43; end = length pmkids + length key + 49 }

  abbrev in_mic : Part
  in_mic = record { start = length pmkids + length key + 51; end = length pmkids + length key + chosen.mic + 51 }

  second_scanned : length s ≤ 1024
      → scan_of s ≡ Ok (record { rsne = One in_rsne; timeout = One in_timeout; mic = One in_mic; fragment = Never; parameters = One in_parameters; wrapped = Never })
  unfolding second_octets rsne_octets timeout_octets parameters_octets mic_octets places_of
  second_scanned h =
      let w₀ = written_none header {n = 6} (length_header chosen.algorithm 2 0) in
      let w₁ = written_more w₀ 48 (length pmkids + 26) (drop 2 rsne) in_rsne (omega (arith, length_rsne chosen.cipher chosen.akm pmkids)) in
      let w₂ = written_more w₁ 56 5 (drop 2 timeout) in_timeout (omega (arith, length_timeout chosen.lifetime)) in
      let w₃ = written_more w₂ 255 (length (content_octets AccessPoint said) + 1) (drop 2 parameters) in_parameters (omega (arith, length_with_key AccessPoint 0 chosen.group key)) in
      let w₄ = written_more w₃ 140 chosen.mic (drop 2 mic) in_mic (omega (arith, length_mic chosen.mic)) in
      in_body s (omega (arith, length_second chosen pmkids key)) h ∙ ap scan_by w₄.walks

  opened : chosen.algorithm < 2 ^ 16 → length s ≤ 1024
      → body_of s ≡ Some (record { algorithm = chosen.algorithm; transaction = 2; status = 0 })
  unfolding second_octets header_octets octets
  opened small h = header_reads_back chosen.algorithm 2 0 small (omega arith) (omega arith) (rsne ++ timeout ++ parameters ++ mic) (omega arith)

  rsne_content : content s in_rsne ≡ drop 2 rsne
  unfolding second_octets
  rsne_content = part_content s header rsne (timeout ++ (parameters ++ mic)) 2 in_rsne (simp append_assoc) (simp lengths (omega arith))

  timeout_content : content s in_timeout ≡ drop 2 timeout
  unfolding second_octets
  timeout_content = part_content s (header ++ rsne) timeout (parameters ++ mic) 2 in_timeout (simp append_assoc) (simp lengths (omega arith))

  parameters_content : content s (extended in_parameters) ≡ drop 3 parameters
  unfolding second_octets
  parameters_content = part_content s (header ++ rsne ++ timeout) parameters mic 3 (extended in_parameters) refl (simp lengths (omega arith))

  mic_content : content s in_mic ≡ drop 2 mic
  unfolding second_octets
  mic_content = part_content s (header ++ rsne ++ timeout ++ parameters) mic [] 2 in_mic (sym (append-nil s)) (simp lengths (omega arith))

  pub second_reads_back : (p : ℕ) → Readable chosen pmkids key p
      → second_of (second_octets chosen pmkids key)
      ≡ Some (record {
        algorithm = chosen.algorithm;
        transaction = 2;
        status = 0;
        group_cipher = Ours 7;
        pairwise = Some (Ours chosen.cipher);
        akm = Some (Ours chosen.akm);
        capabilities = 0x00c0;
        pmkids = pmkids;
        management = Ours 7;
        lifetime = chosen.lifetime;
        format = 0;
        group = chosen.group;
        key = key;
        mic = replicate chosen.mic 0;
      })
  unfolding second_of
  second_reads_back p r =
      let fits : length s ≤ 1024 = omega (arith, length_second chosen pmkids key) in
      let back = written_reads_back AccessPoint said tt r.group in
      let offer = some-injective _ _ (ap (λ (x : Said AccessPoint). x.offer) back.says) in
      rw (
        opened r.algorithm fits,
        second_scanned fits,
        rsne_content,
        rsne_reads_back chosen.cipher chosen.akm p pmkids r.whole_pmkids (omega arith),
        timeout_content,
        timeout_reads_back chosen.lifetime r.asked r.lifetime,
        parameters_content,
        after_the_extension AccessPoint said,
        back.reads,
        mic_content,
        add-sub_cancel (length pmkids) 22,
        pmkids_content chosen.cipher chosen.akm pmkids,
        ap (λ (x : ℕ × List ℕ). x.1) offer,
        mic_zeros chosen.mic,
      )
