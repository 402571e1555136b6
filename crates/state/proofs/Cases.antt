-- Worked examples: the layout as include/galebeacon.h asserts it.
use mathlib.Core.Path.{◌≡◌, refl}
use Rattle.state.specs.State.{latest_at, state_size}

pub latest_at_640 : latest_at ≡ 640
latest_at_640 = refl

pub state_of_648 : state_size ≡ 648
state_of_648 = refl
