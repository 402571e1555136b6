-- The elements that the rules speak of: how many of each there are, and where the first stands.
use Rattle.std.specs.Prelude.{ℕ, Bool, true, false, List, [], ◌∷◌, Option, None, Some, Result, Ok, Err, filter, eqb, if◌then◌else◌}
use Rattle.elements.specs.declared.Element.{Element}
use Rattle.scan.specs.declared.Kind.{Kind}
use Rattle.scan.specs.declared.Kind.TheVariants.{Rsne, Timeout, Mic, Fragment, Parameters, Wrapped, Skipped}
use Rattle.scan.specs.declared.Times.{Times}
use Rattle.scan.specs.declared.Times.TheVariants.{Never, One, More}
use Rattle.scan.specs.declared.Places.{Places}
use Rattle.elements.specs.declared.FailedAt.{FailedAt}
use Rattle.elements.specs.Lies.{part_of}
use Rattle.elements.specs.Walk.{Walk, walked, failed_at, walk_body}

-- RSNE 48, Timeout Interval 56, MIC 140, Fragment 242
abbrev pub plain_kind : ℕ → Kind
plain_kind id =
    if eqb id 48 then Rsne
    else (if eqb id 56 then Timeout
    else (if eqb id 140 then Mic
    else (if eqb id 242 then Fragment
    else Skipped)))

-- PASN Parameters 255/100, Wrapped Data 255/8
abbrev pub extended_kind : ℕ → Kind
extended_kind extension =
    if eqb extension 100 then Parameters
    else (if eqb extension 8 then Wrapped
    else Skipped)

abbrev pub kind_by : ℕ → Option ℕ → Kind
kind_by id (Some extension) = extended_kind extension
kind_by id None = plain_kind id

abbrev pub kind_of : Element → Kind
kind_of e = kind_by e.id e.extension

-- whether two kinds are one
abbrev pub is_kind : Kind → Kind → Bool
is_kind Rsne Rsne = true
is_kind Timeout Timeout = true
is_kind Mic Mic = true
is_kind Fragment Fragment = true
is_kind Parameters Parameters = true
is_kind Wrapped Wrapped = true
is_kind Skipped Skipped = true
is_kind k l = false

-- those of a kind
abbrev pub of_kind : Kind → List Element → List Element
of_kind k es = filter (λ (e : Element). is_kind (kind_of e) k) es

-- none, one or more, and the content of the first
abbrev pub times_of : List Element → Times
times_of [] = Never
times_of (e ∷ []) = One (part_of e)
times_of (e ∷ f ∷ es) = More (part_of e)

unfoldable pub places_of : List Element → Places
places_of es = record {
  rsne = times_of (of_kind Rsne es);
  timeout = times_of (of_kind Timeout es);
  mic = times_of (of_kind Mic es);
  fragment = times_of (of_kind Fragment es);
  parameters = times_of (of_kind Parameters es);
  wrapped = times_of (of_kind Wrapped es);
}

abbrev pub scan_by : Walk → Result Places FailedAt
scan_by (walked es) = Ok (places_of es)
scan_by (failed_at place) = Err (record { 0 = place })

unfoldable pub scan_of : List ℕ → Result Places FailedAt
unfolding walk_body places_of
scan_of body = scan_by (walk_body body)
