-- Each way out is one of the laws.
use mathlib.Core.Path.{refl, sym, ◌∙◌}
use Rattle.scope_state.specs.Inner.Agrees.{scope_of}
use Rattle.scope_state.proofs.Laws.Agrees.{with-input, with-flag}
use Rattle.scope_vars.proofs.Laws.Inputs.{var-is_input, var-unscoped, var-nowhere, var-found}
use Rattle.scope_vars.proofs.input.input_var.Goals as goal

pub returns-then-is_input : goal.returns-then-is_input
returns-then-is_input c =
    let a = c.args in
    record {
      long = refl;
      done = λ l. var-is_input _ _ _ _ (sym c.is_input.ensures ∙ c.if-is_input.true) _ (with-flag (scope_of l a.unscoped.now a.inputs.now _) _ _ refl);
    }

pub returns-then-has : goal.returns-then-has
returns-then-has c = record {
  long = refl;
  done = λ l.
      var-unscoped _ _ _ _ (sym c.is_input.ensures ∙ c.if-is_input.false) (sym c.has.ensures ∙ c.if-has.true);
}

pub returns-then-not-var_exists : goal.returns-then-not-var_exists
returns-then-not-var_exists c =
    record {
      long = refl;
      done = λ l.
          var-nowhere _ _ _ _ (sym c.is_input.ensures ∙ c.if-is_input.false) (sym c.has.ensures ∙ c.if-has.false) _
          c.var_exists.ensures (c.if-not-var_exists.true);
    }

pub returns : goal.returns
returns c =
    let a = c.args in
    record {
      long = c.add.ensures.0 ∙ sym c.requires.inputs-words;
      done = λ l.
          var-found _ _ _ _ (sym c.is_input.ensures ∙ c.if-is_input.false) (sym c.has.ensures ∙ c.if-has.false) _
          c.var_exists.ensures (c.if-not-var_exists.false) _ (with-input (scope_of l a.unscoped.now a.inputs.now _) _ _ c.add.ensures.1);
    }
