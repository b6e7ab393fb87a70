-- `use_expr`: the uses of an expression, then its comprehensions and those of the modifiers, which are one list.
use mathlib.Core.Path.{◌≡◌, sym, ap, ap₂, ◌∙◌, subst}
use mathlib.Core.Bool.{Bool, true, false}
use mathlib.Core.List.{List, [], ◌++◌}
use mathlib.Core.Logic.{◌⊎◌, inl, inr}
use Prim.Native.Nat.{ℕ, ◌-◌, ◌≤◌}
use native.Mathlib.Omega.{arith}
use lib.ListN.{length, take}
use Rattle.base.specs.Limits as limits
use Rattle.base.proofs.Laws.Truth.{bool_cases}
use Rattle.names.specs.Inner.Names.{Names}
use Rattle.answer_blocks.specs.Inner.Layout.{answers_size}
use Rattle.scope.specs.Trees.{Tree}
use Rattle.scope.specs.Traverse.{comprs}
use Rattle.scope.specs.Scopes.{Scope}
use Rattle.definition.specs.Uses.{used_vars}
use Rattle.definition.specs.States.{sound, State}
use Rattle.definition.specs.Using.{gather_used_vars}
use Rattle.definition.specs.Comprs.{Mods, all_used, process_comprs, use_expr}
use Rattle.definition_room.specs.Inner.Leaves.{bracket_vars}
use Rattle.scope_walk.specs.Inner.Sheets.{sheet_at, Accepted}
use Rattle.scope_walk.specs.Inner.Exprs.{expr_by}
use Rattle.definition_walk.specs.Inner.Own.{Holds}
use Rattle.definition_expr.specs.declared.Using.{Using}
use Rattle.definition_expr.specs.Inner.Defined.{ListedExtras}
use Rattle.definition_expr.specs.Inner.UsesVars.{UsesVars}
use Rattle.definition_comprs.specs.Inner.Lists.{most_listed, listed_at, both_at, ListsBoth}
use Rattle.definition_comprs.proofs.Laws.Lists.{no_comprs, listed_front}
use Rattle.definition_comprs.proofs.Laws.Used.{used-none}
use Rattle.definition_literal.specs.declared.context.Context.{Context}
use Rattle.definition_literal.specs.Inner.Contexts.{Stands}
use Rattle.definition_state.specs.declared.Progress.{Progress}
use Rattle.definition_state.specs.Inner.Faults.{is_sound, meaning}
use Rattle.definition_state.proofs.Laws.Steps.{sound-is, not_sound}
use Rattle.definition_state.specs.Inner.Frames.{guarded, Agree, Ready}
use Rattle.definition_steps.proofs.Laws.Guards.{fault_cases, guarded-sound, guarded-stays, comprs_stay, comprs-sound}
use Rattle.definition_steps.proofs.Laws.Same.{same-used}
use Rattle.definition_steps.proofs.Laws.KeepsNested.{keeps_use_expr}
use Rattle.definition_cycle.specs.Inner.Sites.{nested_by, way_by, Surrounds, Inside, RunsIn}
use Rattle.definition_cycle.proofs.Laws.Moves.{at_ready, inside-next, runs_in, runs_in_then, runs_in_as}
use Rattle.definition_cycle.proofs.Laws.Steadies.{steady_gather}
use Rattle.definition_cycle.specs.Inner.Asks.{AsksComprs, AsksExpr}
use Rattle.definition_cycle.specs.Inner.Does.{DoesComprs, DoesUse}
use Rattle.definition_cycle.proofs.Laws.ComprRows.{at_lies}
use Rattle.definition_cycle.proofs.Laws.ComprLists.{does_none, inside-after, both-asks}
use Rattle.definition_cycle.specs.Inner.AllUsed.{AllUsed, WithoutComprs}
use Rattle.definition_cycle.proofs.Laws.UsedBy.{all-used}

module _ (t : List ℕ) (levels : ℕ) (i : ℕ) (l : List ℕ) (e : Tree) where
  abbrev gather : State → State
  gather = guarded (gather_used_vars (sheet_at t) i l e)

  -- The comprehensions are not looked at after a fault: no test is due between the two.
  use_is : (parents : List Scope) (m : Mods) (s : State)
      → process_comprs (sheet_at t) (way_by t levels parents) (comprs e ++ m.comprs) (gather s)
      ≡ use_expr (sheet_at t) (way_by t levels parents) i l m e s
  unfolding use_expr
  use_is parents m s = sym (go (fault_cases (gather s).run.fault))
    where
      next : State → State
      next = process_comprs (sheet_at t) (way_by t levels parents) (comprs e ++ m.comprs)

      go : ((gather s).run.fault ≡ sound) ⊎ ((gather s).run.fault ≡ sound → ⊥) → guarded next (gather s) ≡ next (gather s)
      go (inl z) = guarded-sound next (gather s) z
      go (inr n) =
          guarded-stays (gather s) n next
          ∙ sym (comprs_stay (sheet_at t) (way_by t levels parents) (gather s) n (comprs e ++ m.comprs))

module _ (t inner : List ℕ) (extras : Names) (row : ℕ) (rest : Bool) (x : Context) (p : Progress) (firsts work : List ℕ) where
  abbrev expr : Tree
  expr = expr_by t rest row

  module _ (h : AsksExpr t inner row 0 x p firsts work (bracket_vars expr)) (listed : ListedExtras extras) where
    pub use_ready : Ready t p firsts work (bracket_vars expr)
    use_ready = at_ready t h.inside.spans p firsts work (bracket_vars expr) h.inside.at

    module _ (u : Using) (f₁ w₁ : List ℕ) (uses : UsesVars t extras x.statement row rest p firsts work u f₁ w₁) where
      use_inside : Inside t inner u.progress f₁ w₁ 0
      use_inside = inside-next t inner p u.progress firsts f₁ work w₁ (bracket_vars expr) (bracket_vars expr) 0
          (λ parents. gather t x.levels x.statement listed.list expr) (λ parents. steady_gather t x.levels x.statement listed.list expr) (omega arith)
          (runs_in t inner (gather t x.levels x.statement listed.list expr) p u.progress firsts f₁ work w₁ (uses.runs listed.list listed.holds))
          h.inside

      -- The comprehensions, those of the modifiers with them.
      pub comprs-asks : Accepted t → limits.per_name ≤ length inner → limits.per_name ≤ length f₁ → (rows : List ℕ) (end : ℕ)
          → ListsBoth t rest u.comprs x.mods rows end → most_listed ≤ length rows → AsksComprs t inner rows 0 end u.progress f₁ w₁
      unfolding use_inside
      comprs-asks ok inner_room firsts_room rows end l rows-room =
          both-asks t rest u.comprs x.mods rows end l inner ok inner_room rows-room u.progress f₁ w₁ firsts_room use_inside
          (at_lies t rest row u.comprs uses.comprs h.inside.at.query h.first-lies) h.mods_lie

      -- After them there is room for the table, as there was.
      pub use_room : (cs : List Tree) (s₂ : Progress) (f₂ w₂ : List ℕ) → DoesComprs t inner cs x.levels u.progress f₁ w₁ s₂ f₂ w₂
          → answers_size s₂.width ≤ length w₂
      use_room cs s₂ f₂ w₂ d = (inside-after t inner x.levels cs u.progress s₂ f₁ f₂ w₁ w₂ d use_inside).at.room.enough

  module _ (u : Using) (f₁ w₁ : List ℕ) (uses : UsesVars t extras x.statement row rest p firsts work u f₁ w₁)
      (cs : List Tree) (both : cs ≡ both_at t rest u.comprs x.mods) (s₃ : Progress) (f₃ w₃ : List ℕ)
      (did : DoesComprs t inner cs x.levels u.progress f₁ w₁ s₃ f₃ w₃)
      (names : Names) (all : AllUsed t s₃.width s₃.scope u.names cs x w₃ names) where
    all-comprs : (m : Mods) → Stands t x m → cs ≡ comprs expr ++ m.comprs
    all-comprs m st = both ∙ ap₂ (λ (a b : List Tree). a ++ b) uses.comprs.same (sym st.comprs)

    module _ (m : Mods) (st : Stands t x m) (l : List ℕ) (hl : Holds extras l) where
      abbrev whole_use : List Scope → State → State
      whole_use parents = use_expr (sheet_at t) (way_by t x.levels parents) x.statement l m expr

      comprs-done : DoesComprs t inner (comprs expr ++ m.comprs) x.levels u.progress f₁ w₁ s₃ f₃ w₃
      comprs-done = subst (λ (l : List Tree). DoesComprs t inner l x.levels u.progress f₁ w₁ s₃ f₃ w₃) (all-comprs m st) did

      use_runs : RunsIn t inner whole_use p firsts work s₃ f₃ w₃
      use_runs =
          let first = gather t x.levels x.statement l expr in
          let then : List Scope → State → State = λ parents. process_comprs (sheet_at t) (way_by t x.levels parents) (comprs expr ++ m.comprs) in
          runs_in_as t inner (λ parents s. then parents (first s)) whole_use p s₃ firsts f₃ work w₃
          (λ parents s. use_is t x.levels x.statement l expr parents m s)
          (runs_in_then t inner (bracket_vars expr) (λ parents. first) then p u.progress s₃ firsts f₁ f₃ work w₁ w₃
          (λ parents. steady_gather t x.levels x.statement l expr)
          (runs_in t inner first p u.progress firsts f₁ work w₁ (uses.runs l hl)) comprs-done)

      module _ (fine : is_sound s₃.fault ≡ true) (parents : List Scope) (spans : List ℕ) (s : State) (o : Surrounds t inner parents s)
          (a : Agree t spans p firsts work s) where
        end : Agree t spans s₃ f₃ w₃ (whole_use parents s)
        end = use_runs.agrees parents spans s o a

        clear : (whole_use parents s).run.fault ≡ sound
        clear = sym end.fault ∙ sound-is s₃.fault fine

        -- There was no fault before the comprehensions.
        fine_before : is_sound u.progress.fault ≡ true
        fine_before =
            let mid = gather t x.levels x.statement l expr s in
            let whole : (process_comprs (sheet_at t) (way_by t x.levels parents) (comprs expr ++ m.comprs) mid).run.fault ≡ sound =
            ap (λ (v : State). v.run.fault) (use_is t x.levels x.statement l expr parents m s) ∙ clear in
            let none : mid.run.fault ≡ sound = comprs-sound (sheet_at t) (way_by t x.levels parents) mid (comprs expr ++ m.comprs) whole in
            go (((uses.runs l hl).agrees spans s a).fault ∙ none) (bool_cases (is_sound u.progress.fault))
          where
            go : meaning u.progress.fault ≡ sound → (is_sound u.progress.fault ≡ true) ⊎ (is_sound u.progress.fault ≡ false)
                → is_sound u.progress.fault ≡ true
            go e (inl b) = b
            go e (inr b) = absurd (not_sound u.progress.fault b e)

        use_names : Holds names (all_used (sheet_at t) (way_by t x.levels parents) l m expr (whole_use parents s))
        use_names =
            let held = end.whole clear in
            let own : Holds u.names (used_vars (sheet_at t) s.scope l expr) = uses.names l hl spans s a fine_before in
            let same = same-used (keeps_use_expr (sheet_at t) (nested_by t x.levels) parents x.statement l m expr s) (sheet_at t) l expr in
            all expr m st (all-comprs m st) l (nested_by t x.levels) parents (whole_use parents s) held.scope.sets held.table.stored (subst (Holds u.names) (sym same) own)

    does_use : DoesUse t inner extras expr x p firsts work (record { progress = s₃; names = names; comprs = u.comprs }) f₃ w₃
    does_use = record { runs = use_runs; names = use_names }

  -- The list that was made.
  pub does_listed : (u : Using) (f₁ w₁ : List ℕ) → UsesVars t extras x.statement row rest p firsts work u f₁ w₁ → (rows : List ℕ) (end : ℕ)
      → ListsBoth t rest u.comprs x.mods rows end → end ≤ length rows → (s₃ : Progress) (f₃ w₃ : List ℕ)
      → DoesComprs t inner (listed_at t rows 0 (end - 0)) x.levels u.progress f₁ w₁ s₃ f₃ w₃
      → (names : Names) → AllUsed t s₃.width s₃.scope u.names (listed_at t (take end rows) 0 (length (take end rows))) x w₃ names
      → DoesUse t inner extras expr x p firsts work (record { progress = s₃; names = names; comprs = u.comprs }) f₃ w₃
  does_listed u f₁ w₁ uses rows end l room s₃ f₃ w₃ did names all =
      let e : end - 0 ≡ end = omega arith in
      does_use u f₁ w₁ uses (listed_at t rows 0 end) l.expressions s₃ f₃ w₃
      (subst (λ (n : ℕ). DoesComprs t inner (listed_at t rows 0 n) x.levels u.progress f₁ w₁ s₃ f₃ w₃) e did) names
      (subst (λ (cs : List Tree). AllUsed t s₃.width s₃.scope u.names cs x w₃ names) (listed_front t rows end room) all)

  -- There are no comprehensions.
  module _ (ok : Accepted t) (u : Using) (f₁ w₁ : List ℕ) (uses : UsesVars t extras x.statement row rest p firsts work u f₁ w₁)
      (none : u.comprs ≡ 0) (no-mods : x.mods ≡ 0) (r : Using) (w : WithoutComprs u x r) where
    nothing-listed : [] ≡ both_at t rest u.comprs x.mods
    nothing-listed =
        sym (ap₂ (λ (a b : List Tree). a ++ b) (no_comprs t ok rest u.comprs none) (no_comprs t ok true x.mods no-mods))

    is : record { progress = u.progress; names = r.names; comprs = u.comprs } ≡ r
    is = ap₂ (λ (q : Progress) (n : ℕ). record { progress = q; names = r.names; comprs = n }) (sym w.progress) (sym w.comprs)

    pub does_without : DoesUse t inner extras expr x p firsts work r f₁ w₁
    does_without =
        subst (λ (v : Using). DoesUse t inner extras expr x p firsts work v f₁ w₁) is
        (does_use u f₁ w₁ uses [] nothing-listed u.progress f₁ w₁ (does_none t inner x.levels u.progress f₁ w₁) r.names
        (all-used t u.progress.width u.progress.scope u.names [] x w₁ r.names r.names w.names
        (used-none u.progress.width u.progress.scope w₁ r.names)))
