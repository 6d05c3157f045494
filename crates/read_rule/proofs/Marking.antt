-- Rule (iv) by marks: symbols, references, and the modules of their statements.
-- Assumes nothing.
use Rattle.std.specs.Prelude.{◌≡◌, ℕ, ◌+◌, ◌<◌, ◌≤◌, true, not, ◌⊎◌, List, length, get_or, set}
use mathlib.Core.Path.{sym, ap, subst, ◌∙◌}
use mathlib.Core.Logic.{inl, inr, ⊎_elim}
use mathlib.Core.Bool.{true≢false}
use native.Mathlib.Omega.{arith}
use native.Mathlib.Decide.{ℕ_discrete}
use lib.Seq.{get_or-set_same, get_or-set_other}
use Rattle.lists.specs.Words.{is_zero, has}
use Rattle.lists.proofs.Laws.{has_in, mark-in, mark-out}
use Rattle.walk.specs.Close.{Within}
use Rattle.tables.specs.Lookups.{greater_of}
use Rattle.tables.specs.Project.{Project, missing}
use Rattle.tables.proofs.Greater.{greater-first, greater-second, greater-one}
use Rattle.marks.specs.Steps.{looked, Owners, InAll, Marks}
use Rattle.marks.proofs.Steps.{length-looked, looked-at, looked-has, has-looked}
use Rattle.read_rule.proofs.Chains.{chains-marked}
use Rattle.read_rule.specs.inner.Reads.{ChainTouch, SymbolTouch, ReferenceTouch, Touching, by_symbol, by_depended, Reader, TopLevelRead, Linking, Symbols, Depending}

-- from a copy of the symbols whose owner is planned
pub chains_marked : (p : Project) → Linking p.chain_symbol p.chain_link (length p.owner) → (S owners chains₀ chains : List ℕ) → owners ≡ looked 0 S p.owner → chains₀ ≡ owners
    → Owners p.chain_symbol (looked 0 owners p.chain_link) (length p.chain_symbol) chains₀ chains
    → Marks (ChainTouch p.owner p.chain_symbol p.chain_link S) chains
chains_marked p k S owners chains₀ chains start same o = chains-marked p.owner p.chain_symbol p.chain_link S owners chains k start (rw same at o)

-- the marks of the symbols below y: each the greater of its own and its canonical's
abbrev pub Joined : List ℕ → List ℕ → ℕ → List ℕ → Type 0
Joined canonical chains y symbols = (i : ℕ) → i < y → get_or symbols i 0 ≡ greater_of (get_or chains i 0) (get_or chains (get_or canonical i 0) 0)

module _ (canonical chains : List ℕ) (y : ℕ) (symbols : List ℕ) where
  pub joined-put : (v : ℕ) → Joined canonical chains y symbols → y < length symbols → v ≡ greater_of (get_or chains y 0) (get_or chains (get_or canonical y 0) 0) → Joined canonical chains (y + 1) (set symbols y v)
  joined-put v g l e i k = go (ℕ_discrete i y)
    where
      go : Dec (i ≡ y) → get_or (set symbols y v) i 0 ≡ greater_of (get_or chains i 0) (get_or chains (get_or canonical i 0) 0)
      go (yes q) = subst (λ (x : ℕ). get_or (set symbols y v) x 0 ≡ greater_of (get_or chains x 0) (get_or chains (get_or canonical x 0) 0)) (sym q) (get_or-set_same symbols y v 0 l ∙ e)
      go (no n) = rw (get_or-set_other symbols y i v 0 n) (g i (omega arith))

  pub joined-marks : Joined canonical chains y symbols → length symbols ≤ y → Marks (λ (i : ℕ). (has chains i ≡ true) ⊎ (has chains (get_or canonical i 0) ≡ true)) symbols
  joined-marks g l = record {
    only = λ i e.
        ⊎_elim (λ q. inl (ap (λ (x : ℕ). not (is_zero x)) (sym q) ∙ e)) (λ q. inr (ap (λ (x : ℕ). not (is_zero x)) (sym q) ∙ e))
        (one_of i (omega (arith, has_in symbols i e)));
    all = λ i k h. let m = bounds i (omega arith) in ⊎_elim (λ e. more e m.0) (λ e. more e m.1) h;
  }
    where
      bounds : (i : ℕ) → i < y → (get_or chains i 0 ≤ get_or symbols i 0) × (get_or chains (get_or canonical i 0) 0 ≤ get_or symbols i 0)
      bounds i b =
          let own = get_or chains i 0 in
          let other = get_or chains (get_or canonical i 0) 0 in
          (rw (g i b) (greater-first own other), rw (g i b) (greater-second own other))

      one_of : (i : ℕ) → i < y → (get_or symbols i 0 ≡ get_or chains i 0) ⊎ (get_or symbols i 0 ≡ get_or chains (get_or canonical i 0) 0)
      one_of i b = rw (g i b) (greater-one (get_or chains i 0) (get_or chains (get_or canonical i 0) 0))

      more : {a b : ℕ} → not (is_zero a) ≡ true → a ≤ b → not (is_zero b) ≡ true
      more {a} {b} e k = mark-in b (λ z. true≢false (sym e ∙ mark-out a (omega arith)))

module _ (p : Project) where
  pub symbols_marked : Symbols p → (S chains symbols : List ℕ) → length chains ≡ length p.owner → length symbols ≡ length p.owner
      → Marks (ChainTouch p.owner p.chain_symbol p.chain_link S) chains → Marks (λ (y : ℕ). (has chains y ≡ true) ⊎ (has chains (get_or p.canonical y 0) ≡ true)) symbols
      → Marks (SymbolTouch p.owner p.canonical p.chain_symbol p.chain_link S) symbols
  symbols_marked k S chains symbols count size c s = record {
    only = λ y e. ⊎_elim (λ h. inl (c.only y h)) (λ h. inr (c.only (get_or p.canonical y 0) h)) (s.only y e);
    all = λ y l t.
        s.all y l
        (⊎_elim (λ h. inl (c.all y (omega (arith, count, size)) h))
        (λ h. inr (c.all (get_or p.canonical y 0) (omega (arith, count, k.inside y (omega (arith, k.canonicals, size)))) h))
        t);
  }

  pub references_marked : Depending p → (symbols references₀ references : List ℕ) → references₀ ≡ looked 0 symbols p.reference_symbol
      → Owners p.depended_reference (looked 0 symbols p.depended) (length p.depended_reference) references₀ references
      → Marks (ReferenceTouch p.reference_symbol p.depended_reference p.depended symbols) references
  unfolding Within
  references_marked k symbols references₀ references start o = record {
    only = λ r e.
        ⊎_elim (λ h. inl (has-looked symbols p.reference_symbol r (subst (λ (xs : List ℕ). has xs r ≡ true) start h)).1)
        (λ q. inr (record { row = q.0; there = q.1; named = q.3; holds = (has-looked symbols p.depended q.0 q.2).1 }))
        (o.only r e);
    all = λ r l t.
        let size : length references₀ ≡ length p.reference_symbol = ap length start ∙ length-looked 0 symbols p.reference_symbol in
        ⊎_elim
        (λ h. o.old r (subst (λ (xs : List ℕ). has xs r ≡ true) (sym start) (looked-has symbols p.reference_symbol r (omega (arith, o.len, size)) ∙ h)))
        (λ q.
        subst (λ (x : ℕ). has references x ≡ true) q.named
        (o.new q.row q.there (looked-has symbols p.depended q.row (omega (arith, k.depends, q.there)) ∙ q.holds)
        (subst (λ (x : ℕ). x < length references₀) (sym q.named) (omega (arith, o.len)))))
        t;
  }

module _ (p : Project) where
  pub touching-marked : (S symbols references : List ℕ) → Marks (ReferenceTouch p.reference_symbol p.depended_reference p.depended symbols) references
      → Marks (SymbolTouch p.owner p.canonical p.chain_symbol p.chain_link S) symbols → length symbols ≡ length p.owner
      → Marks (Touching p.owner p.canonical p.chain_symbol p.chain_link p.reference_symbol p.depended_reference p.depended S) references
  touching-marked S symbols references r s size = record {
    only = λ i e.
        ⊎_elim
        (λ h. by_symbol (rw size at (has_in symbols (get_or p.reference_symbol i 0) h)) (s.only (get_or p.reference_symbol i 0) h))
        (λ q. by_depended q.row q.there q.named (rw size at (has_in symbols (get_or p.depended q.row 0) q.holds)) (s.only (get_or p.depended q.row 0) q.holds))
        (r.only i e);
    all = λ i l t. r.all i l (go i t);
  }
    where
      go : (i : ℕ) → Touching p.owner p.canonical p.chain_symbol p.chain_link p.reference_symbol p.depended_reference p.depended S i → ReferenceTouch p.reference_symbol p.depended_reference p.depended symbols i
      go i (by_symbol l t) = inl (s.all (get_or p.reference_symbol i 0) (omega (arith, size)) t)
      go i (by_depended d k q l t) = inr (record { row = d; there = k; named = q; holds = s.all (get_or p.depended d 0) (omega (arith, size)) t })

pub readers_marked : (statement_module reference_statement references readers₀ readers : List ℕ) → ((m : ℕ) → has readers₀ m ≡ true → ⊥)
    → Owners (looked missing statement_module reference_statement) references (length reference_statement) readers₀ readers
    → Marks (Reader statement_module reference_statement references) readers
readers_marked statement_module reference_statement references readers₀ readers none o = record {
  only = λ m e.
      ⊎_elim (λ h. absurd (none m h))
      (λ q. record { row = q.0; there = q.1; named = sym (at q.0 q.1) ∙ q.3; holds = q.2 })
      (o.only m e);
  all = λ m l r.
      let named : get_or owners r.row 0 ≡ m = at r.row r.there ∙ r.named in
      subst (λ (x : ℕ). has readers x ≡ true) named (o.new r.row r.there r.holds (subst (λ (x : ℕ). x < length readers₀) (sym named) (omega (arith, o.len))));
}
  where
    owners : List ℕ
    owners = looked missing statement_module reference_statement

    at : (row : ℕ) → row < length reference_statement → get_or owners row 0 ≡ get_or statement_module (get_or reference_statement row 0) missing
    at row l = looked-at missing statement_module reference_statement row 0 l

module _ (p : Project) (candidates S references readers : List ℕ) (size : length references ≡ length p.reference_statement)
    (t : Marks (Touching p.owner p.canonical p.chain_symbol p.chain_link p.reference_symbol p.depended_reference p.depended S) references)
    (r : Marks (Reader p.statement_module p.reference_statement references) readers) where
  abbrev Reads : ℕ → Type 0
  Reads = TopLevelRead p.reads p.statement_module p.owner p.canonical p.chain_symbol p.chain_link p.reference_statement p.reference_symbol p.depended_reference p.depended candidates S

  pub marked-read : (m : ℕ) → InAll readers p.reads candidates m → Reads m
  marked-read m e =
      let q = r.only m e.0 in
      record { candidate = e.2; reading = e.1; row = q.row; there = q.there; named = q.named; touches = t.only q.row q.holds }

  pub read-marked : (m : ℕ) → m < length readers → Reads m → InAll readers p.reads candidates m
  read-marked m l q = (
    r.all m l (record { row = q.row; there = q.there; named = q.named; holds = t.all q.row (omega (arith, size, q.there)) q.touches }),
    q.reading,
    q.candidate,
  )
