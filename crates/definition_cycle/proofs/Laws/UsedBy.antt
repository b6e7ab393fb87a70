-- All names that an expression uses: its own, those of the modifiers, and what the comprehensions of both use.
use mathlib.Core.Path.{◌≡◌, refl, sym, ap, ap₂, ◌∙◌, subst}
use mathlib.Core.Bool.{Bool, true, false, ◌||◌}
use mathlib.Core.List.{List, ◌++◌}
use Prim.Native.Nat.{ℕ}
use Rattle.base.specs.Lists.{elem}
use Rattle.base.proofs.Laws.Members.{elem-append}
use Rattle.names.specs.Inner.Sets.{Union}
use Rattle.names.specs.Inner.Names.{Names}
use Rattle.names_width.specs.declared.Width.{Width}
use Rattle.scope.specs.Trees.{Tree}
use Rattle.definition.specs.Uses.{used_vars}
use Rattle.definition.specs.Comprs.{comprs_use, all_used}
use Rattle.definition_once.specs.Inner.OnceWay.{once_way}
use Rattle.scope_state.specs.declared.Scope.{Scope}
use Rattle.scope_walk.specs.Inner.Sheets.{sheet_at}
use Rattle.definition_walk.specs.Inner.Own.{Holds}
use Rattle.definition_walk.specs.Inner.Adds.{Adds}
use Rattle.definition_comprs.specs.Inner.Used.{ComprsUsed}
use Rattle.definition_literal.specs.declared.context.Context.{Context}
use Rattle.definition_cycle.specs.Inner.AllUsed.{AllUsed}

-- A set that holds two lists, to which a third came.
pub holds_joined : (a b c r : Names) (k l n : List ℕ) → Holds a k → Holds b l → Union a.words b.words c.words → Adds c n r → Holds r (k ++ (l ++ n))
holds_joined a b c r k l n ha hb u g = record {
  has = λ x.
      elem-append x k (l ++ n) ∙ ap (λ (m : Bool). elem x k || m) (elem-append x l n)
      ∙ turned (elem x k) (elem x l) (elem x n)
      ∙ ap (λ (m : Bool). elem x n || m) (ap₂ ◌||◌ (ha.has x) (hb.has x) ∙ sym (u.has x))
      ∙ sym (g.has x);
}
  where
    turned : (p q m : Bool) → (p || (q || m)) ≡ (m || (p || q))
    turned true true true = refl
    turned true true false = refl
    turned true false true = refl
    turned true false false = refl
    turned false true true = refl
    turned false true false = refl
    turned false false true = refl
    turned false false false = refl

pub all-used : (t : List ℕ) (v : Width) (k : Scope) (names : Names) (cs : List Tree) (x : Context) (work : List ℕ) (by r : Names)
    → Union names.words x.names.words by.words → ComprsUsed v k work cs by r → AllUsed t v k names cs x work r
unfolding all_used
all-used t v k names cs x work by r union used e m st both l nested parents s sets stored h =
    let way = once_way (sheet_at t) nested parents in
    holds_joined names x.names by r (used_vars (sheet_at t) s.scope l e) m.used_vars _ h st.names union
    (subst (λ (c : List Tree). Adds by (comprs_use (sheet_at t) way c s) r) both (used (sheet_at t) nested parents s sets stored))
