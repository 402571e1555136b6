-- The search: the first PMKID of a list that has a record of that PMKID, the same AKM and an end later than the reading, with its first such record.
use Rattle.std.specs.Prelude.{Bool, ◌&&◌, List, [], ◌∷◌, ℕ, ◌+◌, ltb, eqb, find, Option, None, Some}
use Rattle.std.specs.Option.{option_map_or}
use Rattle.octets.specs.Equality.{same_octets}
use Rattle.units.specs.declared.Tu.{Tu}
use Rattle.cache.specs.declared.Choice.{Choice}
use Rattle.cache.specs.File.{Cached}

abbrev pub end_of : Cached → Tu
end_of c = record { 0 = c.end }

-- a record of that PMKID, the same AKM and an end later than the reading
abbrev pub matches : List ℕ → ℕ → Tu → Cached → Bool
matches pmkid akm reading c = same_octets c.pmkid pmkid && (eqb c.akm akm && ltb reading.0 c.end)

-- the first such record
unfoldable pub found_of : List Cached → List ℕ → ℕ → Tu → Option Cached
found_of cs pmkid akm reading = find (matches pmkid akm reading) cs

-- the first PMKID that has one, with that record's end; the list begins with number k
unfoldable pub choice_from : ℕ → List Cached → List (List ℕ) → ℕ → Tu → Option Choice
unfolding found_of
choice_from k cs [] akm reading = None
choice_from k cs (pmkid ∷ pmkids) akm reading =
    option_map_or (λ c. Some (record { pmkid = k; end = end_of c })) (found_of cs pmkid akm reading) (choice_from (k + 1) cs pmkids akm reading)

unfoldable pub choice_of : List Cached → List (List ℕ) → ℕ → Tu → Option Choice
unfolding choice_from
choice_of cs pmkids akm reading = choice_from 0 cs pmkids akm reading
