-- One more entry adds those of its own expected order that aren't listed yet; one that isn't included adds nothing.
-- Assumes nothing.
use Rattle.std.specs.Prelude.{◌≡◌, ℕ, ◌≤◌, Bool, true, false, cond, not, ◌&&◌, List, [], ◌∷◌, ◌++◌, length}
use mathlib.Core.Path.{refl, sym, ap, ◌∙◌}
use mathlib.Core.Logic.{⊎_elim}
use mathlib.Core.List.{append-nil}
use native.Mathlib.Omega.{arith}
use Rattle.lists.specs.Words.{keep, elem, Distinct}
use Rattle.lists.proofs.Laws.{both, keep_append, keep_all, keep-keep, keep-cong, mem-keep, keep-mem, elem_mem, mem-elem, iff-eq, and-out, distinct-keep, length-keep}
use Rattle.walk.specs.Walk.{everywhere, walk, post_order}
use Rattle.walk.proofs.Orders.{order-distinct, order-length}
use Rattle.walk.proofs.Pruned.{order-pruned}
use Rattle.tables.specs.Project.{Project}
use Rattle.tables.specs.Readings.{modules, is_normal, flagged}
use Rattle.expected_visit.specs.Expected.{normal_imports_of, expected}
use Rattle.expected_visit.specs.OfProject.{expected_of}
use Rattle.expected_visit.proofs.Laws.{imports-in}
use Rattle.entries_order.specs.Entries.{is_walked, entries_order}
use Rattle.entries_order.specs.OfEntries.{expected_of_entries}

module _ (p : Project) where
  abbrev succ : ℕ → List ℕ
  succ = normal_imports_of p.normal p.record_module p.record_kind p.record_target

  abbrev listed : ℕ → Bool
  listed = flagged p.included

  abbrev walked : List ℕ → List ℕ
  walked entries = keep (is_walked p.normal p.included) entries

  abbrev order : List ℕ → List ℕ
  order roots = post_order succ everywhere (modules p) roots

  -- what is listed and not met stands in no list of what was listed
  not_listed : (old : List ℕ) (m : ℕ) → (not (elem m old) && listed m) ≡ (listed m && not (elem m (keep listed old)))
  not_listed old m =
      ⊎_elim
      (λ (i : listed m ≡ true).
      let same : elem m old ≡ elem m (keep listed old) =
      iff-eq (elem m old) (elem m (keep listed old))
      (λ h. mem-elem m (keep listed old) (keep-mem listed old (elem_mem m old h) i))
      (λ h. mem-elem m old (mem-keep listed old (elem_mem m (keep listed old) h)).0) in
      rw (i, same) (commute (not (elem m (keep listed old)))))
      (λ (i : listed m ≡ false). rw i (and-out (not (elem m old)) false refl))
      (both (listed m))
    where
      commute : (b : Bool) → (b && true) ≡ (true && b)
      commute true = refl
      commute false = refl

  strike : (old own : List ℕ) → keep listed (keep (λ (m : ℕ). not (elem m old)) own) ≡ keep (λ (m : ℕ). not (elem m (keep listed old))) (keep listed own)
  strike old own =
      keep-keep listed (λ (m : ℕ). not (elem m old)) own
      ∙ keep-cong (λ (m : ℕ). not (elem m old) && listed m) (λ (m : ℕ). listed m && not (elem m (keep listed old))) own (λ m h. not_listed old m)
      ∙ sym (keep-keep (λ (m : ℕ). not (elem m (keep listed old))) listed own)

  module _ (entries : List ℕ) (e : ℕ) where
    -- one that is passed over adds nothing
    pub passed_over : (listed e && is_normal p.normal e) ≡ false → expected_of_entries p (entries ++ (e ∷ [])) ≡ expected_of_entries p entries
    unfolding expected_of_entries entries_order
    passed_over q =
        ap (λ (roots : List ℕ). keep listed (order roots))
        (keep_append (is_walked p.normal p.included) entries (e ∷ [])
        ∙ ap (λ (b : Bool). walked entries ++ cond b (e ∷ []) []) q
        ∙ append-nil (walked entries))

    normal-more : listed e ≡ true → is_normal p.normal e ≡ true
        → expected_of_entries p (entries ++ (e ∷ [])) ≡ expected_of_entries p entries ++ keep (λ (m : ℕ). not (elem m (expected_of_entries p entries))) (keep listed (order (e ∷ [])))
    unfolding expected_of_entries entries_order
    normal-more i g =
        let old : List ℕ = order (walked entries) in
        let one : walked (entries ++ (e ∷ [])) ≡ walked entries ++ (e ∷ []) =
        keep_append (is_walked p.normal p.included) entries (e ∷ []) ∙ rw (i, g) in
        ap (λ (roots : List ℕ). keep listed (order roots)) one
        ∙ ap (keep listed) (order-pruned succ (modules p) (λ m y. imports-in p.normal p.record_module p.record_kind p.record_target m y) (walked entries) e)
        ∙ keep_append listed old (keep (λ (x : ℕ). not (elem x old)) (order (e ∷ [])))
        ∙ ap (λ (l : List ℕ). keep listed old ++ l) (strike old (order (e ∷ [])))

    -- "each listed module stands once, in the part of the first included entry that reaches it"
    pub one_more : listed e ≡ true
        → expected_of_entries p (entries ++ (e ∷ [])) ≡ expected_of_entries p entries ++ keep (λ (m : ℕ). not (elem m (expected_of_entries p entries))) (expected_of p e)
    unfolding expected_of expected
    one_more i =
        ⊎_elim
        (λ (g : is_normal p.normal e ≡ true). rw g (normal-more i g))
        (λ (g : is_normal p.normal e ≡ false). rw g (passed_over (and-out (listed e) (is_normal p.normal e) g) ∙ sym (append-nil (expected_of_entries p entries))))
        (both (is_normal p.normal e))

  -- "For a list of one included entry the result equals the old one."
  pub one_entry : (e : ℕ) → listed e ≡ true → expected_of_entries p (e ∷ []) ≡ expected_of p e
  unfolding expected_of_entries entries_order post_order walk
  one_entry e i = one_more [] e i ∙ keep_all (λ (m : ℕ). not (elem m [])) (expected_of p e) (λ m h. refl)

  -- no module stands twice
  pub listed-once : (entries : List ℕ) → Distinct (expected_of_entries p entries)
  unfolding expected_of_entries entries_order
  listed-once entries = distinct-keep listed (order (walked entries)) (order-distinct succ everywhere (modules p) (walked entries))

  -- no more are listed than there are modules
  pub entries-length : (entries : List ℕ) → length (expected_of_entries p entries) ≤ modules p
  unfolding expected_of_entries entries_order
  entries-length entries =
      let all : List ℕ = order (walked entries) in
      omega (arith, length-keep listed all, order-length succ everywhere (modules p) (walked entries))
