-- Each module has one line, and there are as many lines as modules at most.
-- Assumes nothing.
use mathlib.Core.Path.{sym, ap, ◌∙◌}
use mathlib.Core.Logic.{⊎_elim}
use Rattle.std.specs.Prelude.{ℕ, not, List, ◌++◌}
use mathlib.Core.Bool.{true≢false}
use mathlib.Core.List.Memᴰ
use mathlib.Core.List.{Memᴰ}
use Rattle.lists.specs.Words.{elem, Distinct}
use Rattle.lists.proofs.Laws.{both, not-true, mem-keep, keep-mem, distinct-keep, distinct_append, elem_mem, mem-elem}
use Rattle.page_rows.specs.Rows.{others_of, modules_of}

module _ (expected actual : List ℕ) where
  -- an other isn't in the expected order
  pub other-unexpected : {x : ℕ} → Memᴰ x (others_of expected actual) → Memᴰ x expected → ⊥
  unfolding others_of
  other-unexpected {x} h t = true≢false (sym (mem-elem x expected t) ∙ not-true (elem x expected) (mem-keep (λ (m : ℕ). not (elem m expected)) actual h).1)

  -- no module has two lines
  pub each-once : Distinct expected → Distinct actual → Distinct (modules_of expected actual)
  unfolding modules_of others_of
  each-once d e = distinct_append expected (others_of expected actual) d (distinct-keep (λ (m : ℕ). not (elem m expected)) actual e) (λ x t h. other-unexpected h t)

  -- a module with a line is in one of the orders
  pub line-listed : {x : ℕ} → Memᴰ x (modules_of expected actual) → Memᴰ x (expected ++ actual)
  unfolding modules_of others_of
  line-listed {x} h =
      ⊎_elim (λ t. Memᴰ.append_left actual t) (λ t. Memᴰ.append_right expected (mem-keep (λ (m : ℕ). not (elem m expected)) actual t).0) (Memᴰ.append_cases expected h)

  -- and a module of an order has a line
  pub listed-line : {x : ℕ} → Memᴰ x (expected ++ actual) → Memᴰ x (modules_of expected actual)
  unfolding modules_of others_of
  listed-line {x} h =
      ⊎_elim (λ t. Memᴰ.append_left (others_of expected actual) t)
      (λ t. ⊎_elim
      (λ e. Memᴰ.append_left (others_of expected actual) (elem_mem x expected e))
      (λ e. Memᴰ.append_right expected (keep-mem (λ (m : ℕ). not (elem m expected)) actual t (ap not e)))
      (both (elem x expected)))
      (Memᴰ.append_cases expected h)
