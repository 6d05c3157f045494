-- The seeds of the whole analysis, as a set: the analysed entries' risks and the seed rows.
-- Assumes nothing.
use Rattle.std.specs.Prelude.{◌≡◌, ℕ, true, ◌||◌, ◌⊎◌, length}
use mathlib.Core.Logic.{inl, inr, ⊎_elim}
use mathlib.Core.List.Memᴰ
use mathlib.Core.List.{flat_map, Memᴰ}
use Rattle.lists.specs.Words.{up_to, any, elem, has}
use Rattle.lists.proofs.Laws.{iff-eq, or_parts, or_left, or_right, any-mem, mem-any, elem_mem, mem-elem, mem-keep, keep-mem, up_to-mem, has_in}
use Rattle.lists.proofs.Members.{mem-flat, flat-mem}
use Rattle.tables.specs.Project.{Project}
use Rattle.at_risk.specs.Promise.{risk_of_entry}
use Rattle.wrap_rules.specs.Plan.{roots}
use Rattle.order_analysis.specs.Promise.{members_of_set, seeds_of}

module _ (p : Project) where
  -- the members of an entry's risk are seeds
  pub risk-seed : (root m : ℕ) → Memᴰ root (roots p) → has (risk_of_entry p root) m ≡ true → elem m (seeds_of p) ≡ true
  unfolding seeds_of
  risk-seed root m h e =
      mem-elem m (seeds_of p)
      (Memᴰ.append_left p.seed (flat-mem (λ (r : ℕ). members_of_set (risk_of_entry p r)) (roots p) h (keep-mem (has (risk_of_entry p root)) (up_to (length (risk_of_entry p root))) (up_to-mem (has_in (risk_of_entry p root) m e)) e)))

  -- so are the seed rows
  pub row-seed : (m : ℕ) → elem m p.seed ≡ true → elem m (seeds_of p) ≡ true
  unfolding seeds_of
  row-seed m e = mem-elem m (seeds_of p) (Memᴰ.append_right (flat_map (λ (r : ℕ). members_of_set (risk_of_entry p r)) (roots p)) (elem_mem m p.seed e))

  -- and nothing else
  pub seed-cases : (m : ℕ) → elem m (seeds_of p) ≡ true → ((root : ℕ) × Memᴰ root (roots p) × (has (risk_of_entry p root) m ≡ true)) ⊎ (elem m p.seed ≡ true)
  unfolding seeds_of
  seed-cases m e =
      ⊎_elim
      (λ h.
      let r = mem-flat (λ (r : ℕ). members_of_set (risk_of_entry p r)) (roots p) h in
      inl (r.0, r.1, (mem-keep (has (risk_of_entry p r.0)) (up_to (length (risk_of_entry p r.0))) r.2).1))
      (λ h. inr (mem-elem m p.seed h))
      (Memᴰ.append_cases (flat_map (λ (r : ℕ). members_of_set (risk_of_entry p r)) (roots p)) (elem_mem m (seeds_of p) e))

  pub seed-test : (m : ℕ) → elem m (seeds_of p) ≡ (any (λ (root : ℕ). has (risk_of_entry p root) m) (roots p) || elem m p.seed)
  seed-test m =
      iff-eq (elem m (seeds_of p)) (any (λ (root : ℕ). has (risk_of_entry p root) m) (roots p) || elem m p.seed)
      (λ e. ⊎_elim (λ h. or_left (any (λ (root : ℕ). has (risk_of_entry p root) m) (roots p)) _ (mem-any (λ (root : ℕ). has (risk_of_entry p root) m) (roots p) h.1 h.2)) (λ h. or_right (any (λ (root : ℕ). has (risk_of_entry p root) m) (roots p)) _ h) (seed-cases m e))
      (λ e. ⊎_elim (λ h. let r = any-mem (λ (root : ℕ). has (risk_of_entry p root) m) (roots p) h in risk-seed r.0 m r.1 r.2) (row-seed m) (or_parts (any (λ (root : ℕ). has (risk_of_entry p root) m) (roots p)) (elem m p.seed) e))
