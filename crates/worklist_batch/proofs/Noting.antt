-- What is noted for rule (i), and when nothing new has to be.
-- Assumes nothing.
use Rattle.std.specs.Prelude.{◌≡◌, ℕ, ◌+◌, ◌-◌, ◌<◌, ◌≤◌, true, ◌⊎◌, List, length, get_or, drop, replicate}
use mathlib.Core.Path.{refl, sym, ap, subst, ◌∙◌}
use mathlib.Core.Logic.{inl, ⊎_elim}
use mathlib.Core.List.{Memᴰ}
use native.Mathlib.Omega.{arith}
use native.Mathlib.Decide.{dec_lt}
use lib.ListN.{get_or-replicate, get_or-eq_default, length-replicate, length-drop}
use lib.Seq.{get_or-drop}
use Rattle.lists.specs.Words.{has}
use Rattle.lists.proofs.Laws.{has_in}
use Rattle.lists.proofs.Members.{mem-at, get_d-mem}
use Rattle.tables.specs.Project.{Project}
use Rattle.tables.specs.Readings.{modules}
use Rattle.tables.specs.Accepted.{Accepted}
use Rattle.sensitivity.specs.Marks.{sensitive_marks}
use Rattle.eligibility.specs.Eligible.{eligible_marks}
use Rattle.expected_visit.specs.OfProject.{expected_of}
use Rattle.wrap_rules.specs.Plan.{roots}
use Rattle.wrap_rules.specs.inner.Passes.{candidate_marks}
use Rattle.wrap_rules.proofs.Sets.{eligible-has, parts-candidate}
use Rattle.wrap_rules.proofs.Roots.{expected-reached}
use Rattle.request_queue.specs.inner.Growing.{Listed}
use Rattle.suffix_places.specs.inner.Places.{never, Small, Lowest, Stands}
use Rattle.worklist_taking.specs.inner.State.{RuleNotes, Batch}
use Rattle.worklist_taking.proofs.Places.{place}
use Rattle.worklist_batch.specs.declared.inner.Notes.{Notes}
use Rattle.worklist_batch.specs.inner.Lent.{NotesLed, NotesKept}

-- filled with `never`
pub all_small : (xs : List ℕ) (n : ℕ) → xs ≡ replicate n never → Small xs
unfolding Small
all_small xs n e m = rw e (go (dec_lt m n))
  where
    go : Dec (m < n) → get_or (replicate n never) m 0 ≤ never
    go (yes l) = let z : get_or (replicate n never) m 0 ≡ never = get_or-replicate n m never 0 (omega (arith, l, length-replicate {A = ℕ} n never)) in omega (arith, z)
    go (no l) = let z : get_or (replicate n never) m 0 ≡ 0 = get_or-eq_default (replicate n never) 0 (omega (arith, l, length-replicate {A = ℕ} n never)) in omega (arith, z)

-- all that is listed was looked at
pub lowest-batch : (p : Project) (placed asked settled' asked' : List ℕ) → length asked' ≡ modules p → asked ≡ replicate (modules p) never
    → Lowest p (roots p) (sensitive_marks p) (eligible_marks p) placed asked settled' asked' → (end : ℕ) → Batch p placed (record { settled = settled'; asked = asked' }) end
lowest-batch p placed asked settled' asked' n e h end = record {
  settling = record { size = h.size; settles = h.settles };
  len = n;
  sound = λ m l s.
      ⊎_elim
      (λ z. absurd (omega (arith, s, z ∙ ap (λ (xs : List ℕ). get_or xs m 0) e ∙ get_or-replicate (modules p) m never 0 (omega (arith, l, lib.ListN.length-replicate {A = ℕ} (modules p) never)))))
      (λ z. (get_or (roots p) z.0 0, z.1, get_d-mem (roots p) z.0 z.2, z.3, z.4, z.5))
      (h.only m);
  all = λ root x m i s c l g.
      let a = mem-at (roots p) i in
      h.all a.0 a.1 x m (subst (λ (y : ℕ). Stands (expected_of p y) (sensitive_marks p) x m) (sym a.2) s) c g;
}

module _ (p : Project) (ok : Accepted p) (placed list : List ℕ) (notes : RuleNotes) (end : ℕ) (h : Listed placed list) (b : Batch p placed notes end) where
  -- none of the batch is sensitive
  pub none-sensitive : ((i : ℕ) → i < length (drop end list) → has (sensitive_marks p) (get_or (drop end list) i 0) ≡ true → ⊥) → Batch p placed notes (length list)
  none-sensitive none = record { settling = b.settling; len = b.len; sound = b.sound; all = λ root x m i s c l g. go root x m i s c g (dec_lt end (get_or placed x 0)) }
    where
      go : (root x m : ℕ) → Memᴰ root (roots p) → Stands (expected_of p root) (sensitive_marks p) x m → has placed x ≡ true → has (eligible_marks p) m ≡ true → Dec (end < get_or placed x 0) → (has placed m ≡ true) ⊎ (get_or notes.asked m 0 ≤ get_or placed x 0)
      go root x m i s c g (no a) = b.all root x m i s c (omega arith) g
      go root x m i s c g (yes a) =
          let r = place h x c in
          let z : end + (r.0 - end) ≡ r.0 = omega (arith, a, r.3) in
          absurd (none (r.0 - end) (omega (arith, a, r.1, r.3, length-drop end list)) (subst (λ (y : ℕ). has (sensitive_marks p) y ≡ true) (sym (get_or-drop end list (r.0 - end) 0 ∙ ap (λ (j : ℕ). get_or list j 0) z ∙ r.2)) s.early))

  -- every sensitive candidate is listed
  pub none_open : ((m : ℕ) → m < length placed → has (sensitive_marks p) m ≡ true → has (candidate_marks p) m ≡ true → has placed m ≡ true) → length placed ≡ modules p → Batch p placed notes (length list)
  none_open shut n = record {
    settling = b.settling;
    len = b.len;
    sound = b.sound;
    all = λ root x m i s c l g.
        let e = sym (eligible-has p m) ∙ g in
        let r = expected-reached p ok root m i (subst (λ (y : ℕ). Memᴰ y (expected_of p root)) s.named (get_d-mem (expected_of p root) s.at s.there)) in
        inl (shut m (omega (arith, n, has_in (eligible_marks p) m g, Rattle.lists.proofs.Laws.length-marks_of (Rattle.eligibility.specs.Eligible.eligible p) (modules p))) s.late (parts-candidate p m e r));
  }

-- the slices stay where nothing is written, and through two calls
pub kept_notes : (n : Notes) → NotesLed n → NotesKept n n
kept_notes n h = record { settled = refl; asked = refl; heads = refl; nexts = refl; led = h }

pub kept-notes-on : {n n' n'' : Notes} → NotesKept n n' → NotesKept n' n'' → NotesKept n n''
kept-notes-on a b = record { settled = b.settled ∙ a.settled; asked = b.asked ∙ a.asked; heads = b.heads ∙ a.heads; nexts = b.nexts ∙ a.nexts; led = b.led }
