-- The words come back where they were lent.
use mathlib.Core.Path.{◌≡◌, refl, ap, ap₂, ◌∙◌, subst}
use mathlib.Core.Bool.{Bool, true, false}
use mathlib.Core.List.{List, [], ◌∷◌}
use Prim.Native.Nat.{ℕ, ◌+◌, ◌-◌}
use native.Mathlib.Omega.{arith}
use lib.ListN.{length}
use mir.Val.{bool_byte}
use borrow.Rule.Slice.PartMut.{put_mid}
use Rattle.order.specs.Turns.{mark}
use Rattle.answer_store.specs.Inner.Writes.{Written, words_from}
use Rattle.answer_store.specs.Inner.Words.{head_words}
use Rattle.answer_store.proofs.Laws.Writes.{written_slice}
use Rattle.answer_store.proofs.block.store_head.Goals as goal

flag_mark : (b : Bool) → bool_byte b ≡ mark b
flag_mark true = refl
flag_mark false = refl

pub returns : goal.returns
returns c =
    let a = c.args in
    let w = a.answers.now in
    let copied = c.copy_from_slice.new.self in
    let four : 4 ≡ a.block + 4 - a.block = omega arith in
    let head : copied ≡ head_words a.uses a.count a.base a.placed =
    c.copy_from_slice.ensures.after
    ∙ ap₂ (λ (m n : ℕ). m ∷ n ∷ a.count ∷ a.base ∷ []) (c.from.ensures ∙ c.state.ensures) (c.from-2.ensures ∙ flag_mark a.uses) in
    subst (λ (k : ℕ). Written w (put_mid a.block k w copied) a.block 4 (words_from (head_words a.uses a.count a.base a.placed))) four
    (subst (λ (l : List ℕ). Written w (put_mid a.block 4 w copied) a.block 4 (words_from l)) head (written_slice w a.block 4 copied c.requires (ap length head)))
