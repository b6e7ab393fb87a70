-- The steps that the cycle is made of are steady: what each adds, that it keeps the scope's own names, and that it is not done at a fault.
use mathlib.Core.Path.{ap, ◌∙◌}
use mathlib.Core.Bool.{Bool}
use mathlib.Core.List.{List, [], ◌∷◌, ◌++◌, foldl}
use Prim.Native.Nat.{ℕ, suc, ◌+◌}
use native.Mathlib.Omega.{arith}
use Rattle.scope.specs.Trees.{Tree}
use Rattle.scope.specs.Traverse.{comprs}
use Rattle.scope.specs.Scopes.{Scope}
use Rattle.definition.specs.States.{State}
use Rattle.definition.specs.Using.{gather_used_vars}
use Rattle.definition.specs.Comprs.{Mods, process_comprs, use_expr}
use Rattle.definition.specs.Exprs.{Pairing, assign_pairing}
use Rattle.definition.specs.SomeIn.{process_non_var}
use Rattle.definition_room.specs.Inner.Sizes.{total}
use Rattle.definition_room.specs.Inner.Leaves.{bracket_vars}
use Rattle.definition_room.specs.Inner.Exprs.{pair_cost}
use Rattle.definition_room.proofs.Laws.Exprs.{adds_assign_pairing}
use Rattle.definition_room.proofs.Laws.Adds.{adds_definitions_then, adds_below, step_if, turn-fold}
use Rattle.definition_room.proofs.Laws.Comprs.{KeepsFit, adds_process_comprs, adds_use_expr}
use Rattle.definition_room.proofs.Laws.Using.{adds_gather_used_vars}
use Rattle.definition_room.proofs.Laws.SomeIn.{adds_process_non_var}
use Rattle.definition_room.proofs.Laws.Queries.{analyze-fits}
use Rattle.scope_walk.specs.Inner.Sheets.{sheet_at}
use Rattle.definition_state.specs.Inner.Frames.{guarded}
use Rattle.definition_steps.proofs.Laws.Guards.{guarded-stays, turn-stays, comprs_stay, pairings_stay, non_vars_stay}
use Rattle.definition_steps.proofs.Laws.Same.{same_trans}
use Rattle.definition_steps.proofs.Laws.Keeps.{keeps_guarded, keeps_gather_used_vars}
use Rattle.definition_steps.proofs.Laws.KeepsNested.{keeps_process_comprs, keeps_use_expr, keeps_assign_pairings, keeps_process_non_vars}
use Rattle.definition_cycle.specs.Inner.Sites.{nested_by, way_by}
use Rattle.definition_cycle.proofs.Laws.Moves.{Steady}

module _ (t : List ℕ) (levels : ℕ) where
  pub steady_fits : KeepsFit (sheet_at t) (nested_by t levels)
  steady_fits = analyze-fits levels (sheet_at t)

  -- Two steps.
  pub steady_then : (m n : ℕ) (f g : State → State) → Steady t m f → Steady t n g → Steady t (m + n) (λ s. g (f s))
  steady_then m n f g a b = record {
    below = a.below + b.below;
    adds = λ s. adds_definitions_then (sheet_at t) (adds_below (sheet_at t) (a.below + b.below) (a.adds s) (omega arith))
        (adds_below (sheet_at t) (a.below + b.below) (b.adds (f s)) (omega arith));
    keeps = λ s. same_trans (a.keeps s) (b.keeps (f s));
    stays = λ s h. ap g (a.stays s h) ∙ b.stays s h;
  }

  pub steady_gather : (i : ℕ) (extras : List ℕ) (e : Tree) → Steady t (bracket_vars e) (guarded (gather_used_vars (sheet_at t) i extras e))
  steady_gather i extras e = record {
    below = suc i;
    adds = λ s. step_if (sheet_at t) (gather_used_vars (sheet_at t) i extras e) (adds_gather_used_vars (sheet_at t) i extras e) s.run.fault s;
    keeps = keeps_guarded (gather_used_vars (sheet_at t) i extras e) (keeps_gather_used_vars (sheet_at t) i extras e);
    stays = λ s h. guarded-stays s h (gather_used_vars (sheet_at t) i extras e);
  }

  module _ (parents : List Scope) where
    pub steady_comprs : (cs : List Tree) → Steady t 0 (process_comprs (sheet_at t) (way_by t levels parents) cs)
    steady_comprs cs = record {
      below = 0;
      adds = adds_process_comprs (sheet_at t) (nested_by t levels) parents steady_fits cs;
      keeps = keeps_process_comprs (sheet_at t) (nested_by t levels) parents cs;
      stays = λ s h. comprs_stay (sheet_at t) (way_by t levels parents) s h cs;
    }

    pub steady_use : (i : ℕ) (extras : List ℕ) (m : Mods) (e : Tree)
        → Steady t (bracket_vars e) (use_expr (sheet_at t) (way_by t levels parents) i extras m e)
    unfolding use_expr
    steady_use i extras m e = record {
      below = suc i;
      adds = adds_use_expr (sheet_at t) (nested_by t levels) parents steady_fits i extras m e;
      keeps = keeps_use_expr (sheet_at t) (nested_by t levels) parents i extras m e;
      stays = λ s h. turn-stays s h
          (gather_used_vars (sheet_at t) i extras e ∷ process_comprs (sheet_at t) (way_by t levels parents) (comprs e ++ m.comprs) ∷ []);
    }

    pub steady_pairs : (i : ℕ) (m : Mods) (check : Bool) (ps : List Pairing)
        → Steady t (total pair_cost ps) (λ s. foldl (assign_pairing (sheet_at t) (way_by t levels parents) i m check) s ps)
    steady_pairs i m check ps = record {
      below = suc i;
      adds = turn-fold (sheet_at t) pair_cost (assign_pairing (sheet_at t) (way_by t levels parents) i m check)
          (adds_assign_pairing (sheet_at t) (nested_by t levels) parents steady_fits i m check) ps;
      keeps = keeps_assign_pairings (sheet_at t) (nested_by t levels) parents i m check ps;
      stays = λ s h. pairings_stay (sheet_at t) (way_by t levels parents) s h i m check ps;
    }

    pub steady_others : (i : ℕ) (m : Mods) (es : List Tree)
        → Steady t (total bracket_vars es) (λ s. foldl (process_non_var (sheet_at t) (way_by t levels parents) i m) s es)
    steady_others i m es = record {
      below = suc i;
      adds = turn-fold (sheet_at t) bracket_vars (process_non_var (sheet_at t) (way_by t levels parents) i m)
          (adds_process_non_var (sheet_at t) (nested_by t levels) parents steady_fits i m) es;
      keeps = keeps_process_non_vars (sheet_at t) (nested_by t levels) parents i m es;
      stays = λ s h. non_vars_stay (sheet_at t) (way_by t levels parents) s h i m es;
    }
