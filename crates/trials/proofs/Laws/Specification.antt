-- The specification's trials that are to be proved, in one list under one fact: lists of definitions, and queries as sheets.
use mathlib.Core.Path.{◌≡◌, refl}
use mathlib.Core.Bool.{Bool, true}
use mathlib.Core.List.{List, ◌++◌, map}
use Rattle.base.specs.Limits.{printing}
use Rattle.base.specs.Lists.{all, range}
use Rattle.order.specs.Definitions.{resolves}
use Rattle.order.specs.Turns.{round, placements}
use Rattle.order.proofs.Laws.Trials as schedules
use Rattle.trials.proofs.Laws.Trial as sheets
use Rattle.trials.proofs.Laws.Examples as examples
use Rattle.trials.proofs.Laws.Computed.{computed}

pub data AnyTrial : Type 0 where
  schedule : schedules.ListTrial → AnyTrial
  sheet : sheets.Trial → AnyTrial

abbrev pub any_passes : AnyTrial → Bool
any_passes (schedule t) = schedules.list_passes t
any_passes (sheet t) = sheets.passes t

abbrev pub trials : List AnyTrial
trials = map schedule schedules.list_trials ++ map sheet examples.trials

-- All of them pass.
pub trials-pass : all any_passes trials ≡ true
unfolding computed resolves round placements range
trials-pass = refl

-- And the sheets by the limits of the printing program.
pub printing-pass : all (sheets.passes_by printing) examples.trials ≡ true
unfolding computed
printing-pass = refl
