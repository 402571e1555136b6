-- MIC.
use Rattle.std.specs.Prelude.{ℕ, List, [], ◌∷◌, ◌++◌, replicate}

-- the octets of the whole element, beside the MIC
abbrev pub mic_size : ℕ
mic_size = 2

-- the whole element, of n zeros: ID 140, the length, the zeros
unfoldable pub mic_octets : ℕ → List ℕ
mic_octets n = (140 ∷ n ∷ []) ++ replicate n 0
