-- Lists, scopes and modifiers that the code's sets stand for: where a function asks for some, these are there.
use mathlib.Core.Path.{◌≡◌, refl, ◌∙◌}
use mathlib.Core.Bool.{Bool, true, false, cond, ◌||◌}
use mathlib.Core.List.{List, [], ◌∷◌, map}
use mathlib.Core.Logic.{◌⊎◌, inl, inr}
use mathlib.Core.Option.{some}
use Prim.Native.Nat.{ℕ}
use lib.Dec.{eqb}
use Rattle.std.specs.Prelude.{Option}
use Rattle.base.specs.Lists.{elem, is_some}
use Rattle.base.proofs.Laws.Truth.{bool_cases, eqb_sym}
use Rattle.base.specs.Sets.{member, members}
use Rattle.names.proofs.Laws.Laws.{elem-members}
use Rattle.names.specs.Inner.Names.{Names}
use Rattle.scope.specs.Trees.{tree_at}
use Rattle.scope.specs.Traverse.{comprs}
use Rattle.scope.specs.Scopes.{contains, Span, Scope, span_in}
use Rattle.definition.specs.States.{sound}
use Rattle.definition.specs.Comprs.{Mods}
use Rattle.scope_state.specs.declared.Scope.{Scope as Kept}
use Rattle.scope_state.specs.Inner.Agrees.{Sets}
use Rattle.scope_walk.specs.Inner.Sheets.{sheet_at}
use Rattle.definition_walk.specs.Inner.Own.{Holds}
use Rattle.definition_state.specs.declared.Fault.{Fault}
use Rattle.definition_state.specs.Inner.Faults.{is_sound, meaning}
use Rattle.definition_state.proofs.Laws.Steps.{not_sound}
use Rattle.definition_literal.specs.declared.context.Context.{Context}
use Rattle.definition_literal.specs.Inner.Contexts.{Stands}

-- A set holds its members.
pub members-held : (k : Names) → Holds k (members k.words)
members-held k = record { has = elem-members k.words }

-- Every context stands for some modifiers.
abbrev pub some_mods : List ℕ → Context → Mods
some_mods t x = record { used_vars = members x.names.words; comprs = comprs (tree_at (sheet_at t) x.mods) }

pub some_stand : (t : List ℕ) (x : Context) → Stands t x (some_mods t x)
some_stand t x = record { comprs = refl; names = members-held x.names }

-- ---- scopes

abbrev span_at : ℕ → Span
span_at x = record { name = x; line = 0; col = 0 }

local_listed : (x : ℕ) (l : List ℕ) → is_some (span_in (map span_at l) x) ≡ elem x l
local_listed x [] = refl
local_listed x (y ∷ l) = rw (eqb_sym x y) (go (eqb y x) (local_listed x l))
  where
    go : (b : Bool) → is_some (span_in (map span_at l) x) ≡ elem x l
        → is_some (cond b (some (span_at y)) (span_in (map span_at l) x)) ≡ (b || elem x l)
    go true ih = refl
    go false ih = ih

-- The scope with the sets of k, its locals at no place.
abbrev pub kept_scope : Kept → Scope
kept_scope k = record {
  locals = map span_at (members k.locals.words);
  unscoped = member k.unscoped.words;
  inputs = member k.inputs.words;
  uses_input = k.uses;
}

pub sets_of : (k : Kept) → Sets k (kept_scope k)
unfolding contains
sets_of k = record {
  locals = λ x. local_listed x (members k.locals.words) ∙ elem-members k.locals.words x;
  unscoped = λ x. refl;
  inputs = λ x. refl;
  flag = refl;
}

-- ---- faults

pub is-sound : (x : Option Fault) → meaning x ≡ sound → is_sound x ≡ true
is-sound x e = go (bool_cases (is_sound x))
  where
    go : (is_sound x ≡ true) ⊎ (is_sound x ≡ false) → is_sound x ≡ true
    go (inl b) = b
    go (inr b) = absurd (not_sound x b e)
