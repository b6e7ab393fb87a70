-- Laws of `PlacedSchedule`.
use mathlib.Core.Path.{◌≡◌, sym, subst}
use mathlib.Core.List.Memᴰ
use mathlib.Core.List.{List, ◌∷◌, ◌++◌, Memᴰ}
use mathlib.Core.Logic.{⊎_elim}
use Rattle.sheet.specs.Sheet.{Sheet}
use Rattle.definition.specs.States.{QuerySchedule}
use Rattle.original.specs.Inner.Placed.{AllPlaced, PlacedSchedule}

-- Two tables, one in front of the other.
pub placed-append : (sheet : Sheet) (T U : List QuerySchedule) → AllPlaced sheet T → AllPlaced sheet U → AllPlaced sheet (T ++ U)
placed-append sheet T U h k a m = ⊎_elim (λ (t : Memᴰ a T). h a t) (λ (t : Memᴰ a U). k a t) (Memᴰ.append_cases T m)

-- One more schedule.
pub placed-cons : (sheet : Sheet) (a : QuerySchedule) (T : List QuerySchedule) → PlacedSchedule sheet a → AllPlaced sheet T → AllPlaced sheet (a ∷ T)
placed-cons sheet a T h k b m =
    ⊎_elim (λ (e : b ≡ a). subst (PlacedSchedule sheet) (sym e) h) (λ (t : Memᴰ b T). k b t) (Memᴰ.cases_cons m)
