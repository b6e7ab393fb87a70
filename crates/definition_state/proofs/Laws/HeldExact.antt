-- Where names are low, the rows hold the definitions themselves.
use mathlib.Core.Path.{◌≡◌, sym, ◌∙◌, subst}
use mathlib.Core.Bool.{true}
use mathlib.Core.List.{List, Memᴰ}
use Prim.Native.Nat.{ℕ, ◌*◌, ◌<◌}
use lib.Dec.{ltb}
use Rattle.base.specs.Lists.{all}
use Rattle.names_width.specs.declared.Width.{Width}
use Rattle.names_width.specs.Inner.Widths.{set_words, row_words}
use Rattle.order.specs.Definitions.{Definition}
use Rattle.order.specs.Call.{definition_at}
use Rattle.definition_state.specs.Inner.Held.{Held}
use Rattle.definition_state.proofs.Laws.Held.{row-all}

-- The rows hold the definitions on a list themselves, each of them and no other.
pub record Exact (v : Width) (w : List ℕ) (c : ℕ) (defs : List Definition) : Type 0 where
  pub each : (j : ℕ) → j < c → Memᴰ (definition_at (row_words v) w j) defs
  pub all : (d : Definition) → Memᴰ d defs → (j : ℕ) × (j < c) × (definition_at (row_words v) w j ≡ d)

pub held_exact : (v : Width) (w : List ℕ) (c : ℕ) (defs : List Definition) → Held v w c defs
    → ((d : Definition) → Memᴰ d defs → all (λ x. ltb x (64 * set_words v)) d.used ≡ true) → Exact v w c defs
held_exact v w c defs h low = record {
  each = λ j l.
      let f = h.each j l in
      subst (λ (d : Definition). Memᴰ d defs) (sym (f.2 ∙ row-all v f.0 (low f.0 f.1))) f.1;
  all = λ d m. let f = h.all d m in (f.0, f.1, f.2 ∙ row-all v d (low d m));
}
