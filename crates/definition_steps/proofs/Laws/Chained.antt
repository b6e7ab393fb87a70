-- A walk over a chain is a walk over its expressions, one after the other.
use mathlib.Core.Path.{◌≡◌, refl, ap, ap₂, ◌∙◌, sym}
use mathlib.Core.List.{List, ◌∷◌, ◌++◌, append-nil}
use Rattle.base.specs.Lists.{concat_map}
use Rattle.sheet.specs.Sheet.{Sheet}
use Rattle.scope.specs.Trees.{Tree, nil, node, chain}
use Rattle.scope.specs.Traverse.{children_of, entered, traverse, comprs}
use Rattle.base.proofs.Laws.ListLaws.{concat_map-append, concat_map-nested}
use Rattle.scope.specs.Scopes.{Scope}
use Rattle.definition.specs.Queries.{mods_of}

traverse-chain : (t : Tree) → concat_map traverse (chain t) ≡ traverse t
unfolding chain traverse
traverse-chain nil = refl
traverse-chain (node w a b c n) =
    ap₂ (λ (k l : List Tree). k ++ l)
    (append-nil (node w a b c nil ∷ entered (children_of w) (traverse a) (traverse b) (traverse c))) (traverse-chain n)

-- What is collected at the expressions that a walk meets.
pub collect_chain : {B : Type 0} (f : Tree → List B) (t : Tree) → concat_map (λ e. concat_map f (traverse e)) (chain t) ≡ concat_map f (traverse t)
collect_chain f t = sym (concat_map-nested f traverse (chain t)) ∙ ap (concat_map f) (traverse-chain t)

pub comprs-chain : (t : Tree) → concat_map comprs (chain t) ≡ comprs t
comprs-chain t = collect_chain _ t

-- The two chains of a comprehension's outputs.
pub comprs-chains : (k v : Tree) → concat_map comprs (chain k ++ chain v) ≡ comprs k ++ comprs v
comprs-chains k v = concat_map-append comprs (chain k) (chain v) ∙ ap₂ (λ (a b : List Tree). a ++ b) (comprs-chain k) (comprs-chain v)

-- The modifiers of a statement are a chain.
pub mods-comprs : (sheet : Sheet) (sc : Scope) (t : Tree) → (mods_of sheet sc (chain t)).comprs ≡ comprs t
unfolding mods_of
mods-comprs sheet sc t = comprs-chain t
