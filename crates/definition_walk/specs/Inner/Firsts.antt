-- The walk that enters the first uses.
use Rattle.std.specs.Prelude.{◌≡◌, Bool, cond, ℕ, ◌+◌, ◌*◌, ◌<◌, get_or}
use mathlib.Core.List.{List, foldl, map}
use Rattle.std.proofs.Math.Option.{Option, none, some}
use Rattle.base.specs.Limits as limits
use Rattle.names.specs.Inner.Names.{Names}
use Rattle.sheet.specs.declared.Row.{Row}
use Rattle.sheet.specs.Kinds.{is_var}
use Rattle.scope.specs.Scopes as spec
use Rattle.scope.specs.Scopes.{Span, span_of, span_in}
use Rattle.definition.specs.Uses.{is_use, variables_used, add_first_use}
use Rattle.scope_state.specs.declared.Scope.{Scope}
use Rattle.scope_walk.specs.Inner.Sheets.{sheet_at}
use Rattle.scope_state.specs.Inner.Agrees.{Sets}
use Rattle.scope_walk.specs.Inner.Exprs.{expr_by}
use Rattle.definition_walk.specs.Inner.Own.{Holds}

-- A first use as a word: 0 for none.
abbrev pub first_word : Option Span → ℕ
first_word none = 0
first_word (some p) = 1 + p.line * 65536 + p.col

-- The words hold the first uses, one a name. Their lines and columns are low, so that a word can be taken apart again.
pub record Firsts (ws : List ℕ) (spans : List Span) : Type 0 where
  pub has : (x : ℕ) → x < limits.per_name → first_word (span_in spans x) ≡ get_or ws x 0
  pub low : (x : ℕ) (p : Span) → span_in spans x ≡ some p → (p.line < 65536) × (p.col < 65536)

-- ---- one use

abbrev pub FirstUse : Row → List ℕ → List ℕ → Type 0
FirstUse w ws rs = (spans : List Span) → Firsts ws spans → Firsts rs (add_first_use spans (span_of w))

-- ---- a step

abbrev pub use_step : (Row → Bool) → List Span → Row → List Span
use_step p spans w = cond (is_var w) (cond (p w) (add_first_use spans (span_of w)) spans) spans

module _ (t : List ℕ) (k : Scope) (extras : Names) where
  -- For every scope and every list of names that the code's stand for.
  abbrev pub FirstStep : Row → List ℕ → List ℕ → Type 0
  FirstStep w ws rs =
      (s : spec.Scope) → Sets k s → (l : List ℕ) → Holds extras l
      → (spans : List Span) → Firsts ws spans → Firsts rs (use_step (is_use (sheet_at t) s l) spans w)

  abbrev pub FirstWalk : ℕ → Bool → List ℕ → List ℕ → Type 0
  FirstWalk row rest ws rs =
      (s : spec.Scope) → Sets k s → (l : List ℕ) → Holds extras l
      → (spans : List Span) → Firsts ws spans
      → Firsts rs (foldl add_first_use spans (map span_of (variables_used (sheet_at t) s l (expr_by t rest row))))
