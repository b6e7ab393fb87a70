-- Where queries stand: the comprehensions that the analysis of a statement meets, and all queries at and below one.
use Rattle.std.specs.Prelude.{cond, List, [], ◌∷◌, ◌++◌, ℕ, zero, suc}
use Rattle.std.proofs.Math.Option.{Option, none, some}
use Rattle.base.specs.Lists.{concat_map}
use Rattle.sheet.specs.Sheet.{Sheet}
use Rattle.sheet.specs.Kinds.{is_assign}
use Rattle.scope.specs.Trees.{Tree, row_of, first_of, second_of, outputs_of}
use Rattle.scope.specs.Traverse.{leaves, comprs}
use Rattle.scope.specs.Paths.{get_extra_arg}
use Rattle.scope.specs.Statements.{Literal, some_vars, some_in, expr, not_expr, every, Stmt, stmts_of}
use Rattle.definition.specs.Exprs.{Pairing, pair, mismatch, pairings}

-- The comprehensions of a pair.
abbrev pub pair_comprs : Pairing → List Tree
pair_comprs (pair lhs rhs) = comprs lhs ++ comprs rhs
pair_comprs (mismatch v) = []

-- Of an expression: of an assignment those of its pairs.
unfoldable pub expr_comprs : Tree → List Tree
expr_comprs e = cond (is_assign (row_of e)) (concat_map pair_comprs (pairings (first_of e) (second_of e))) (comprs e)

-- Of an expression, with its extra argument if it has one.
abbrev pub call_comprs : Option Tree → Tree → List Tree
call_comprs none e = expr_comprs e
call_comprs (some arg) e = comprs e

-- Of a literal.
unfoldable pub literal_comprs : Sheet → Literal → List Tree
literal_comprs sheet (some_vars vs) = []
literal_comprs sheet (some_in key value collection) = comprs collection ++ concat_map comprs (leaves key ++ leaves value)
literal_comprs sheet (expr e) = call_comprs (get_extra_arg sheet e) e
literal_comprs sheet (not_expr e) = expr_comprs e
literal_comprs sheet (every key value domain query) = comprs domain

-- The comprehensions of a statement: those of its modifiers and those of its literal.
unfoldable pub stmt_comprs : Sheet → Stmt → List Tree
stmt_comprs sheet st = concat_map comprs st.with_mods ++ literal_comprs sheet st.literal

-- The body of an `every`.
abbrev pub body_of : Literal → List ℕ
body_of (some_vars vs) = []
body_of (some_in key value collection) = []
body_of (expr e) = []
body_of (not_expr e) = []
body_of (every key value domain query) = query ∷ []

-- The query of a comprehension with what stands below it.
abbrev pub compr_family : (ℕ → List Tree → List ℕ) → Tree → List ℕ
compr_family below e = below (row_of e).third (outputs_of e)

-- The queries that statements name, then those that outputs name, each with what stands below it.
unfoldable pub queries_named : (ℕ → List Tree → List ℕ) → Sheet → List Stmt → List Tree → List ℕ
queries_named below sheet [] outputs = concat_map (compr_family below) (concat_map comprs outputs)
queries_named below sheet (st ∷ stmts) outputs =
    concat_map (compr_family below) (stmt_comprs sheet st)
    ++ (concat_map (λ b. below b []) (body_of st.literal) ++ queries_named below sheet stmts outputs)

-- A query and all that stand below it, so many levels down, each as often as it is named.
unfoldable pub family : ℕ → Sheet → ℕ → List Tree → List ℕ
family zero sheet q outputs = q ∷ []
family (suc levels) sheet q outputs = q ∷ queries_named (λ b ts. family levels sheet b ts) sheet (stmts_of sheet q) outputs
