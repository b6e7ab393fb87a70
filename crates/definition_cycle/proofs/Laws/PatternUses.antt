-- What the parts of a some-in pattern use that are no variables.
use mathlib.Core.Path.{◌≡◌, refl, sym, ap, ◌∙◌, subst}
use mathlib.Core.Bool.{true, false, cond}
use mathlib.Core.List.{List, [], ◌++◌, append_assoc, append-nil}
use Prim.Native.Nat.{ℕ, ◌≤◌}
use Rattle.names.specs.Inner.Sets.{Empty}
use Rattle.names.specs.Inner.Names.{Names}
use Rattle.names_width.specs.declared.Width.{Width}
use Rattle.sheet.specs.declared.Row.{Row}
use Rattle.sheet.specs.Inner.Sheet.{row_at}
use Rattle.sheet.specs.Kinds.{is_pattern}
use Rattle.scope.specs.Trees.{Tree, tree_at}
use Rattle.scope.specs.Traverse.{comprs}
use Rattle.base.proofs.Laws.ListLaws.{concat_map-append}
use Rattle.definition.specs.Uses.{used_vars}
use Rattle.definition.specs.Comprs.{comprs_use, all_used}
use Rattle.definition.specs.SomeIn.{non_vars}
use Rattle.definition_once.specs.Inner.OnceWay.{once_way}
use Rattle.scope_state.specs.declared.Scope.{Scope}
use Rattle.scope_walk.specs.Inner.Sheets.{sheet_at, Accepted, expr_count}
use Rattle.scope_walk.specs.Inner.Exprs.{expr_by}
use Rattle.scope_walk.proofs.Laws.Patterns.{PatternTurn}
use Rattle.definition_walk.specs.Inner.Own.{Holds}
use Rattle.definition_walk.specs.Inner.Adds.{Adds}
use Rattle.definition_walk.proofs.Laws.Adds.{adds_none, adds_then, adds_holds}
use Rattle.definition_expr.proofs.Laws.UsesMods.{holds-none}
use Rattle.definition_comprs.specs.Inner.Lists.{both_at}
use Rattle.definition_comprs.specs.Inner.Used.{ComprsUsed}
use Rattle.definition_literal.specs.declared.context.Context.{Context}
use Rattle.definition_literal.specs.Inner.SomeIn.{NonVar}
use Rattle.definition_literal.proofs.Laws.SomeIn.{in_pattern}
use Rattle.definition_literal.specs.Inner.Used.{NamesWalk}
use Rattle.definition_cycle.specs.Inner.Asks.{other_at}
use Rattle.definition_steps.specs.Inner.Pairs.{leaves_at}
use Rattle.definition_cycle.specs.Inner.AllUsed.{later_mods, parts_use, others_use, OtherUsed, PartUsed, LeavesUsed, OthersUsed}
use Rattle.definition_cycle.proofs.Laws.Patterns.{other-is, non_vars-append, non_vars-none, non_vars-row}

module _ (t : List ℕ) (v : Width) (k : Scope) (work : List ℕ) where
  -- ---- one part

  pub other_none : (row : ℕ) → row ≡ 0 → (mods : ℕ) (a : Names) → OtherUsed t v k row mods work a a
  other_none row z mods a nested parents s h stored = rw z (adds_none a)

  pub other-one : (row : ℕ) → (row ≡ 0 → ⊥) → (mods : ℕ) (none a by b : Names) → Empty none.words
      → NamesWalk t k none row false a by → (cs : List Tree) → cs ≡ both_at t false row mods → ComprsUsed v k work cs by b
      → OtherUsed t v k row mods work a b
  unfolding all_used
  other-one row some mods none a by b clear names-walk cs both used nested parents s h stored =
      let way = once_way (sheet_at t) nested parents in
      let e = expr_by t false row in
      let later = comprs (tree_at (sheet_at t) mods) in
      let names = used_vars (sheet_at t) s.scope [] e in
      let whole : names ++ comprs_use (sheet_at t) way cs s ≡ parts_use t way s later (other_at t row) =
      ap (λ (c : List Tree). names ++ comprs_use (sheet_at t) way c s) both
      ∙ sym (append-nil (all_used (sheet_at t) way [] (later_mods later) e s))
      ∙ ap (parts_use t way s later) (sym (other-is t row some)) in
      subst (λ (l : List ℕ). Adds a l b) whole
      (adds_then a by b names (comprs_use (sheet_at t) way cs s) (names-walk s.scope h [] (holds-none none clear)) (used (sheet_at t) nested parents s h stored))

  -- ---- a leaf

  module _ (row : ℕ) (w : Row) (mods : ℕ) where
    -- No part by itself, as a pattern is none; and one.
    pub part_none : NonVar t k row w 0 → (a : Names) → PartUsed t v k row w mods work a a
    part_none is a = record { part = 0; is = is; used = other_none 0 refl mods a }

    pub part-pattern : is_pattern w ≡ true → (a : Names) → PartUsed t v k row w mods work a a
    part-pattern p = part_none (in_pattern t k w row p)

    pub part_itself : NonVar t k row w row → (a b : Names) → OtherUsed t v k row mods work a b → PartUsed t v k row w mods work a b
    part_itself is a b used = record { part = row; is = is; used = used }

    -- The match of a row.
    abbrev pub UsedTurn : Names → Names → Type 0
    UsedTurn = PatternTurn (PartUsed t v k row w mods work) (λ n. LeavesUsed t v k n mods work) w

  -- ---- all of them

  module _ (ok : Accepted t) where
    pub leaves_used_none : (row : ℕ) → row ≡ 0 → (mods : ℕ) (a : Names) → LeavesUsed t v k row mods work a a
    leaves_used_none row z mods a nested parents s h stored = rw (non_vars-none t s.scope ok row z) (adds_none a)

    -- With the walk over the rest of its chain.
    pub leaves_used_turn : (row : ℕ) → (row ≡ 0 → ⊥) → row ≤ expr_count t → (w : Row) → w ≡ row_at t row
        → (mods : ℕ) (a s₁ s₂ : Names) → UsedTurn row w mods a s₁ → LeavesUsed t v k w.next mods work s₁ s₂ → LeavesUsed t v k row mods work a s₂
    leaves_used_turn row some high w is mods a s₁ s₂ turn h₂ nested parents s h stored =
        let items = cond (is_pattern w) w.first 0 in
        let other = turn.step.part in
        let s₀ = turn.own in
        let way = once_way (sheet_at t) nested parents in
        let cs = comprs (tree_at (sheet_at t) mods) in
        let others : ℕ → List Tree = λ r. non_vars (sheet_at t) s.scope (leaves_at t r) in
        let whole : (parts_use t way s cs (other_at t other) ++ others_use t way s cs (leaves_at t items)) ++ others_use t way s cs (leaves_at t w.next)
        ≡ others_use t way s cs (leaves_at t row) =
        append_assoc (parts_use t way s cs (other_at t other)) (parts_use t way s cs (others items)) (parts_use t way s cs (others w.next))
        ∙ ap (λ (l : List ℕ). parts_use t way s cs (other_at t other) ++ l) (sym (concat_map-append _ (others items) (others w.next)))
        ∙ sym (concat_map-append _ (other_at t other) (others items ++ others w.next))
        ∙ ap (parts_use t way s cs) (sym (non_vars-row t s.scope ok row some high w is items refl other (turn.step.is s.scope h))) in
        subst (λ (l : List ℕ). Adds a l s₂) whole
        (adds_then a s₁ s₂ (parts_use t way s cs (other_at t other) ++ others_use t way s cs (leaves_at t items)) (others_use t way s cs (leaves_at t w.next))
        (adds_then a s₀ s₁ (parts_use t way s cs (other_at t other)) (others_use t way s cs (leaves_at t items)) (turn.step.used nested parents s h stored) (turn.parts nested parents s h stored)) (h₂ nested parents s h stored))

  -- The parts of key and value.
  pub others_used : (key value : ℕ) (x : Context) (none by r : Names) → Empty none.words
      → LeavesUsed t v k key x.mods work none by → LeavesUsed t v k value x.mods work by r → OthersUsed t v k key value x work r
  others_used key value x none by r clear h₀ h₁ m stands nested parents s h stored =
      let way = once_way (sheet_at t) nested parents in
      let cs = comprs (tree_at (sheet_at t) x.mods) in
      let others : ℕ → List Tree = λ r. non_vars (sheet_at t) s.scope (leaves_at t r) in
      let whole : others_use t way s cs (leaves_at t key) ++ others_use t way s cs (leaves_at t value) ≡ others_use t way s m.comprs (leaves_at t key ++ leaves_at t value) =
      sym (concat_map-append _ (others key) (others value))
      ∙ ap (parts_use t way s cs) (sym (non_vars-append t s.scope (leaves_at t key) (leaves_at t value)))
      ∙ ap (λ (l : List Tree). others_use t way s l (leaves_at t key ++ leaves_at t value)) (sym stands.comprs) in
      subst (Holds r) whole
      (adds_holds none r (others_use t way s cs (leaves_at t key) ++ others_use t way s cs (leaves_at t value)) clear
      (adds_then none by r (others_use t way s cs (leaves_at t key)) (others_use t way s cs (leaves_at t value)) (h₀ nested parents s h stored) (h₁ nested parents s h stored)))
