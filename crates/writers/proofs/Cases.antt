-- Worked examples. The second frame is one that hostap's station accepted.
use mathlib.Core.Path.{◌≡◌, refl}
use mathlib.Core.List.{List, [], ◌∷◌, ◌++◌}
use Rattle.std.specs.Prelude.{None, Some}
use Prim.Native.Nat.{ℕ}
use lib.ListN.{replicate}
use Rattle.octets.specs.Numbers.{le, octets}
use Rattle.elements.specs.Body.{body_of}
use Rattle.scan.specs.Scan.{scan_of}
use Rattle.suites.specs.declared.Suite.TheVariants.{Ours}
use Rattle.suites.specs.Suite.{suite_at, suite_octets}
use Rattle.layouts.specs.Mic.{mic_octets}
use Rattle.parameters.specs.Parameters.{parameters_of, parameters_octets}
use Rattle.rsne.specs.Rsne.{rsne_of, rsne_octets}
use Rattle.layouts.specs.Timeout.{timeout_of, timeout_octets}
use Rattle.writers.specs.declared.second.Chosen.{Chosen}
use Rattle.writers.specs.Header.{header_octets}
use Rattle.writers.specs.Second.{second_octets}
use Rattle.writers.specs.SecondRead.{Second, second_of}

abbrev header : List ℕ
header = 0x07 ∷ 0x00 ∷ 0x02 ∷ 0x00 ∷ 0x00 ∷ 0x00 ∷ []

abbrev pmkid : List ℕ
pmkid = replicate 16 0xa8

abbrev rsne : List ℕ
rsne =
    (0x30 ∷ 0x2a ∷ 0x01 ∷ 0x00 ∷ 0x00 ∷ 0x0f ∷ 0xac ∷ 0x07 ∷ 0x01 ∷ 0x00 ∷ 0x00 ∷ 0x0f ∷ 0xac ∷ 0x04 ∷ 0x01 ∷ 0x00 ∷ 0x00 ∷ 0x0f ∷ 0xac ∷ 0x08 ∷ [])
    ++ (0xc0 ∷ 0x00 ∷ 0x01 ∷ 0x00 ∷ [])
    ++ pmkid
    ++ (0x00 ∷ 0x0f ∷ 0xac ∷ 0x07 ∷ [])

abbrev timeout : List ℕ
timeout = 0x38 ∷ 0x05 ∷ 0x02 ∷ 0x58 ∷ 0x02 ∷ 0x00 ∷ 0x00 ∷ []

abbrev key : List ℕ
key =
    0x02 ∷ 0xee ∷ 0x1c ∷ 0xdd ∷ 0x24 ∷ 0x7f ∷ 0x5d ∷ 0xbb ∷ 0x80 ∷ 0x60 ∷ 0x4b ∷ 0x00 ∷ 0xce ∷ 0xf1 ∷ 0x5b ∷ 0x83
    ∷ 0x91 ∷ 0x65 ∷ 0x5e ∷ 0xfd ∷ 0x7b ∷ 0x82 ∷ 0x28 ∷ 0x11 ∷ 0x6d ∷ 0x3f ∷ 0xbb ∷ 0xc3 ∷ 0x0b ∷ 0xb8 ∷ 0xd2 ∷ 0x33
    ∷ 0x80
    ∷ []

abbrev parameters : List ℕ
parameters = (0xff ∷ 0x27 ∷ 0x64 ∷ 0x02 ∷ 0x00 ∷ 0x13 ∷ 0x00 ∷ 0x21 ∷ []) ++ key

abbrev mic : List ℕ
mic = 0x06 ∷ 0x25 ∷ 0x8b ∷ 0xaf ∷ 0xe0 ∷ 0x34 ∷ 0x11 ∷ 0x5b ∷ 0x78 ∷ 0xa0 ∷ 0x99 ∷ 0x81 ∷ 0xb1 ∷ 0x4b ∷ 0x63 ∷ 0x58 ∷ []

abbrev with_mic : List ℕ → List ℕ
with_mic mic = 0x8c ∷ 0x10 ∷ mic

abbrev shown : List ℕ → List ℕ → Second
shown pmkids mic = record {
  algorithm = 7;
  transaction = 2;
  status = 0;
  group_cipher = Ours 7;
  pairwise = Some (Ours 4);
  akm = Some (Ours 8);
  capabilities = 0x00c0;
  pmkids = pmkids;
  management = Ours 7;
  lifetime = record { 0 = 600 };
  format = 0;
  group = 19;
  key = key;
  mic = mic;
}

abbrev chosen : Chosen
chosen = record { algorithm = 7; cipher = 4; akm = 8; lifetime = record { 0 = 600 }; group = 19; mic = 16 }

pub real_written : second_octets chosen pmkid key ≡ header ++ rsne ++ timeout ++ parameters ++ with_mic (replicate 16 0)
unfolding second_octets header_octets rsne_octets timeout_octets parameters_octets mic_octets octets suite_octets
real_written = refl

pub real_read : second_of (header ++ rsne ++ timeout ++ parameters ++ with_mic mic) ≡ Some (shown pmkid mic)
unfolding second_of body_of scan_of rsne_of timeout_of parameters_of le suite_at
real_read = refl

pub no_pmkid : second_of (second_octets chosen [] key) ≡ Some (shown [] (replicate 16 0))
unfolding
    second_of body_of scan_of rsne_of timeout_of parameters_of le suite_at second_octets header_octets rsne_octets timeout_octets parameters_octets mic_octets octets suite_octets
no_pmkid = refl

-- an element of ID 244 is skipped
pub another_order : second_of (header ++ with_mic mic ++ parameters ++ (0xf4 ∷ 0x01 ∷ 0x20 ∷ []) ++ timeout ++ rsne) ≡ Some (shown pmkid mic)
unfolding second_of body_of scan_of rsne_of timeout_of parameters_of le suite_at
another_order = refl

pub two_timeouts : second_of (header ++ rsne ++ timeout ++ timeout ++ parameters ++ with_mic mic) ≡ None
unfolding second_of body_of scan_of le
two_timeouts = refl

pub no_mic : second_of (header ++ rsne ++ timeout ++ parameters) ≡ None
unfolding second_of body_of scan_of le
no_mic = refl

pub fragment : second_of (header ++ rsne ++ timeout ++ parameters ++ with_mic mic ++ (0xf2 ∷ 0x00 ∷ [])) ≡ None
unfolding second_of body_of scan_of le
fragment = refl

pub wrapped : second_of (header ++ rsne ++ timeout ++ parameters ++ (0xff ∷ 0x01 ∷ 0x08 ∷ []) ++ with_mic mic) ≡ None
unfolding second_of body_of scan_of le
wrapped = refl

pub comeback : second_of (header ++ rsne ++ timeout ++ (0xff ∷ 0x28 ∷ 0x64 ∷ 0x03 ∷ 0x00 ∷ 0x00 ∷ 0x13 ∷ 0x00 ∷ 0x21 ∷ key) ++ with_mic mic) ≡ None
unfolding second_of body_of scan_of rsne_of timeout_of parameters_of le suite_at
comeback = refl

pub no_key : second_of (header ++ rsne ++ timeout ++ (0xff ∷ 0x03 ∷ 0x64 ∷ 0x00 ∷ 0x00 ∷ []) ++ with_mic mic) ≡ None
unfolding second_of body_of scan_of rsne_of timeout_of parameters_of le suite_at
no_key = refl

pub octet_left_over : second_of (header ++ rsne ++ timeout ++ parameters ++ with_mic mic ++ (0x00 ∷ [])) ≡ None
unfolding second_of body_of scan_of le
octet_left_over = refl

pub refusal : second_of header ≡ None
unfolding second_of body_of scan_of le
refusal = refl
