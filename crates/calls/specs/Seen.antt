-- What a body gets, by what is known of its peer.
use Rattle.std.specs.Prelude.{Bool, List, ℕ, Option}
use Rattle.elements.specs.Body.{body_of}
use Rattle.peers.specs.declared.Peer.{Peer}
use Rattle.rules.specs.declared.Verdict.{Verdict}
use Rattle.rules.specs.OnePeer.{Call, on_body}
use Rattle.rules.specs.Told.{Gets}

abbrev pub BodyGets : Call → Bool → Option Peer → List ℕ → Verdict → Type 0
BodyGets call full own after r = Gets (on_body call (body_of call.body) full own) call.buffer after r
