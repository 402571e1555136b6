-- A worked example: one exchange that installs a key, and what takes the key away from it.
use Prim.Native.Nat.{ℕ}
use mathlib.Core.Path.{◌≡◌, refl}
use mathlib.Core.Bool.{false}
use mathlib.Core.List.Memᴰ
use mathlib.Core.List.{List, [], ◌∷◌}
use Rattle.std.specs.Prelude.{None, Some}
use native.Mathlib.Omega.{arith}
use lib.ListN.{replicate}
use Rattle.octets.specs.Numbers.{le}
use Rattle.elements.specs.Body.{body_of}
use Rattle.scan.specs.Scan.{scan_of}
use Rattle.suites.specs.Suite.{suite_at}
use Rattle.suites.specs.Tables.{akm_of, cipher_of, group_of, is_key_of}
use Rattle.parameters.specs.Parameters.{parameters_of}
use Rattle.rsne.specs.Rsne.{rsne_of}
use Rattle.frames.specs.First.{first_of}
use Rattle.frames.specs.Third.{third_of}
use Rattle.cache.specs.File.{is_well_formed, records_of}
use Rattle.peers.specs.declared.Peer.{Peer}
use Rattle.peers.specs.declared.Phase.{Phase}
use Rattle.peers.specs.declared.Phase.TheVariants.{Waiting, Installed}
use Rattle.rules.specs.OnePeer.{Call, receive_of}
use Rattle.rules.specs.Alone.{receive, remove, look_up, removed, found, alone_gets, alone_after}
use Rattle.demands.specs.Edges.{tu, brings, station, first_body, third_body, mic, short_key}
use Rattle.demands.specs.InstalledKey.{Holds}
use Rattle.demands.specs.Served.{Service}
use Rattle.demands.proofs.Keeping.{can_be_served}

-- a lifetime of 3,600 s, 3,515,625 TU
abbrev frame : ℕ → ℕ → List ℕ → Call
frame reading deadline body =
    record { brought = brings reading deadline station; cache = []; key = short_key; mic = mic; body = body; buffer = replicate 148 0 }

-- AKM 21, cipher 4, and no Timeout
abbrev opening : List ℕ
opening = first_body 4 21 []

abbrev opens : Call
opens = frame 5000 1000 opening

abbrev closes : ℕ → Call
closes reading = frame reading 1000 third_body

abbrev peer : Phase → Peer
peer phase = record {
  address = station;
  agreed = record { cipher = 4; akm = 21; cached = false; lifetime = record { 0 = 3600 } };
  pmkid = replicate 16 0;
  phase = phase;
}

abbrev key : Peer
key = peer (Installed (tu 3521624))

pub record Worked : Type 0 where
  -- it is served
  pub served : Service (receive opens ∷ look_up station (tu 5500) ∷ receive (closes 5999) ∷ [])
  -- up to the TU before its end
  pub held : Holds (receive opens ∷ look_up station (tu 5500) ∷ receive (closes 5999) ∷ []) (tu 3521623) key
  -- the same third frame again leaves it
  pub again : (alone_after (receive opens ∷ receive (closes 5999) ∷ receive (closes 6000) ∷ [])).peer ≡ Some key
  -- a third frame at the deadline is late
  pub late : (alone_after (receive opens ∷ receive (closes 6000) ∷ [])).peer ≡ None
  pub removed_between : (alone_after (receive opens ∷ remove station (tu 5500) ∷ receive (closes 5999) ∷ [])).peer ≡ None
  pub removed_since : (alone_after (receive opens ∷ receive (closes 5999) ∷ remove station (tu 6000) ∷ [])).peer ≡ None
  -- another first frame replaces the exchange, and its own deadline has passed
  pub replaced : (alone_after (receive opens ∷ receive (frame 5500 400 opening) ∷ receive (closes 5999) ∷ [])).peer ≡ None
  -- a look-up ahead of time sets no latest reading
  pub looked_ahead : alone_gets (look_up station (tu 60) ∷ remove station (tu 10) ∷ []) ≡ found 17 None ∷ removed 17 ∷ []

pub worked : Worked
unfolding receive_of is_well_formed records_of body_of scan_of first_of third_of rsne_of parameters_of suite_at le akm_of cipher_of group_of is_key_of
worked = record {
  served = can_be_served (station ∷ []) (omega arith) _ (Memᴰ.head refl, (Memᴰ.head refl, (Memᴰ.head refl, tt)))
      (omega arith, omega arith, (omega arith, omega arith, (omega arith, omega arith, tt)));
  held = record {
    before = [];
    first = opens;
    between = look_up station (tu 5500) ∷ [];
    third = closes 5999;
    since = [];
    split = refl;
    exchange = peer (Waiting (tu 6000));
    accepted = record { answer = refl; made = refl };
    before_deadline = omega arith;
    third_accepted = record { answer = refl; made = refl };
    undisturbed = (refl, tt);
    not_removed = tt;
    end_ahead = omega arith;
  };
  again = refl;
  late = refl;
  removed_between = refl;
  removed_since = refl;
  replaced = refl;
  looked_ahead = refl;
}
