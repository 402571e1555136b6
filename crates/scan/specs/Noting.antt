-- What the scan does at one element.
use Rattle.scan.specs.declared.Kind.{Kind}
use Rattle.scan.specs.declared.Kind.TheVariants.{Rsne, Timeout, Mic, Fragment, Parameters, Wrapped, Skipped}
use Rattle.scan.specs.declared.Places.{Places}
use Rattle.elements.specs.declared.Part.{Part}
use Rattle.scan.specs.declared.Times.{Times}
use Rattle.scan.specs.declared.Times.TheVariants.{Never, One, More}

-- one more of a kind
abbrev pub seen_of : Times → Part → Times
seen_of Never content = One content
seen_of (One first) content = More first
seen_of (More first) content = More first

-- the places, once an element of a kind is met
abbrev pub marked : Kind → Places → Part → Places
marked Rsne p content = record p { rsne = seen_of p.rsne content }
marked Timeout p content = record p { timeout = seen_of p.timeout content }
marked Mic p content = record p { mic = seen_of p.mic content }
marked Fragment p content = record p { fragment = seen_of p.fragment content }
marked Parameters p content = record p { parameters = seen_of p.parameters content }
marked Wrapped p content = record p { wrapped = seen_of p.wrapped content }
marked Skipped p content = p
