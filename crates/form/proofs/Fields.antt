-- Reading a field undoes writing one, and reads nothing else.
-- Assumes nothing.
use Prim.Native.Nat.{ℕ, zero, suc, ◌+◌, ◌-◌, ◌*◌, ◌/◌, ◌%◌, ◌≤◌, ◌<◌}
use native.Mathlib.Omega.{arith}
use native.Mathlib.Nat.{add-suc, add-zero}
use mathlib.Core.Path.{◌≡◌, refl, sym, ap, ap₂, ◌∙◌}
use mathlib.Core.Logic.{◌⊎◌, inl, inr, ⊎_elim}
use mathlib.Core.Bool.{Bool, true, false, cond}
use mathlib.Core.List.{List, [], ◌∷◌, ◌++◌, append_assoc}
use lib.Dec.{ltb, leb}
use lib.ListN.{length, length-append}
use borrow.Author.Tests.{lt-ltb, le-ltb, lt-leb, ne_eqb, ltb-true, ltb-false, leb-false, eqb-true}
use Rattle.form.specs.Form.{spell, number, field}
use Rattle.tables.specs.Project.{missing}
use Rattle.form.specs.Parse.{ok, bad, further, front}

pub split : (a b : ℕ) → (a < b) ⊎ (b ≤ a)
split a b = go (ltb a b) refl
  where
    go : (t : Bool) → ltb a b ≡ t → (a < b) ⊎ (b ≤ a)
    go true e = inl (ltb-true a b e)
    go false e = inr (ltb-false a b e)

-- a number below ten is one digit, whatever the bound
spell-short : (k n : ℕ) → n < 10 → spell k n ≡ (48 + n) ∷ []
unfolding spell
spell-short zero n h = refl
spell-short (suc k) n h = simp (lt-ltb n 10 h)

spell-long : (k n : ℕ) → 10 ≤ n → spell (suc k) n ≡ spell k (n / 10) ++ ((48 + n % 10) ∷ [])
unfolding spell
spell-long k n h = simp (le-ltb n 10 h)

-- a bound of n or more is enough
spell_enough : (k n : ℕ) → n ≤ k → spell (suc k) n ≡ spell k n
spell_enough zero n h = spell-short 1 n (omega arith) ∙ sym (spell-short 0 n (omega arith))
spell_enough (suc k) n h =
    ⊎_elim
    (λ s. spell-short (suc (suc k)) n s ∙ sym (spell-short (suc k) n s))
    (λ l. spell-long (suc k) n l
    ∙ ap (λ (x : List ℕ). x ++ ((48 + n % 10) ∷ [])) (spell_enough k (n / 10) (omega arith))
    ∙ sym (spell-long k n l))
    (split n 10)

spell-more : (j n : ℕ) → spell (n + j) n ≡ spell n n
spell-more zero n = ap (λ (k : ℕ). spell k n) (add-zero n)
spell-more (suc j) n = ap (λ (k : ℕ). spell k n) (add-suc n j) ∙ spell_enough (n + j) n (omega arith) ∙ spell-more j n

pub number_short : (n : ℕ) → n < 10 → number n ≡ (48 + n) ∷ []
unfolding number
number_short n h = spell-short n n h

-- one digit more
pub number_step : (m d : ℕ) → 0 < m → d < 10 → number (m * 10 + d) ≡ number m ++ ((48 + d) ∷ [])
unfolding number
number_step m d hm hd =
    let n : ℕ = m * 10 + d in
    let j : ℕ = m * 9 + d - 1 in
    ap (λ (k : ℕ). spell k n) {x = n} {y = suc (m + j)} (omega arith)
    ∙ spell-long (m + j) n (omega arith)
    ∙ ap₂ (λ (q r : ℕ). spell (m + j) q ++ ((48 + r) ∷ [])) {x = n / 10} {y = m} {u = n % 10} {v = d} (omega arith) (omega arith)
    ∙ ap (λ (x : List ℕ). x ++ ((48 + d) ∷ [])) (spell-more j m)

pub number-long : (n : ℕ) → 10 ≤ n → number n ≡ number (n / 10) ++ ((48 + n % 10) ∷ [])
number-long n h = ap number {x = n} {y = n / 10 * 10 + n % 10} (omega arith) ∙ number_step (n / 10) (n % 10) (omega arith) (omega arith)

-- a digit at the front of what `further` reads
further-digit : (v d : ℕ) (s : List ℕ) → d < 10 → v * 10 + d < missing → further v ((48 + d) ∷ s) ≡ further (v * 10 + d) s
unfolding further
further-digit v d s hd h =
    simp (le-ltb (48 + d) 48 (omega arith), le-ltb 57 (48 + d) (omega arith), lt-leb missing (v * 10 + (48 + d - 48)) (omega arith))
    (ap (λ (x : ℕ). further (v * 10 + x) s) {x = 48 + d - 48} {y = d} (omega arith))

front-digit : (d : ℕ) (s : List ℕ) → 0 < d → d < 10 → front ((48 + d) ∷ s) ≡ further d s
unfolding front
front-digit d s hp hd =
    simp (ne_eqb (48 + d) 45 (omega arith), ne_eqb (48 + d) 48 (omega arith), le-ltb (48 + d) 49 (omega arith), le-ltb 57 (48 + d) (omega arith))
    (ap (λ (x : ℕ). further x s) {x = 48 + d - 48} {y = d} (omega arith))

front-spell : (k v : ℕ) (s : List ℕ) → 0 < v → v < missing → v ≤ k → front (spell k v ++ s) ≡ further v s
front-spell zero v s hp hm hk = absurd (omega arith)
front-spell (suc k) v s hp hm hk =
    ⊎_elim
    (λ h. ap (λ (x : List ℕ). front (x ++ s)) (spell-short (suc k) v h) ∙ front-digit v s hp h)
    (λ h. ap (λ (x : List ℕ). front (x ++ s)) (spell-long k v h)
    ∙ ap front (append_assoc (spell k (v / 10)) ((48 + v % 10) ∷ []) s)
    ∙ front-spell k (v / 10) ((48 + v % 10) ∷ s) (omega arith) (omega arith) (omega arith)
    ∙ further-digit (v / 10) (v % 10) s (omega arith) (omega arith)
    ∙ ap (λ (x : ℕ). further x s) {x = v / 10 * 10 + v % 10} {y = v} (omega arith))
    (split v 10)

field-number : (v : ℕ) → v < missing → field v ≡ number v
unfolding field
field-number v h = simp (ne_eqb v missing (omega arith))

further-stop : (v e : ℕ) (s : List ℕ) → e < 48 → further v (e ∷ s) ≡ ok v (e ∷ s)
unfolding further
further-stop v e s h = simp (lt-ltb e 48 h)

front-number : (v e : ℕ) (s : List ℕ) → v < missing → e < 48 → front (number v ++ e ∷ s) ≡ ok v (e ∷ s)
unfolding number front spell
front-number zero e s h he = refl
front-number (suc v) e s h he = front-spell (suc v) (suc v) (e ∷ s) (omega arith) h (omega arith) ∙ further-stop (suc v) e s he

field-missing : (s : List ℕ) → field missing ++ s ≡ 45 ∷ s
unfolding field
field-missing s = refl

field-zero : (s : List ℕ) → field 0 ++ s ≡ 48 ∷ s
unfolding field number spell
field-zero s = refl

front-missing : (s : List ℕ) → front (field missing ++ s) ≡ ok missing s
unfolding front field
front-missing s = refl

-- reading undoes writing
pub front-field : (v e : ℕ) (s : List ℕ) → v ≤ missing → e < 48 → front (field v ++ e ∷ s) ≡ ok v (e ∷ s)
front-field v e s h he =
    ⊎_elim
    (λ l. ap (λ (x : List ℕ). front (x ++ e ∷ s)) (field-number v l) ∙ front-number v e s l he)
    (λ g. at-missing v (omega arith))
    (split v missing)
  where
    at-missing : (v : ℕ) → v ≡ missing → front (field v ++ e ∷ s) ≡ ok v (e ∷ s)
    at-missing v q = rw q (front-missing (e ∷ s))

cond_cases : {A : Type 0} (t : Bool) (a b c : A) → cond t a b ≡ c → ((t ≡ true) × (a ≡ c)) ⊎ ((t ≡ false) × (b ≡ c))
cond_cases true a b c e = inl (refl, e)
cond_cases false a b c e = inr (refl, e)

ok-bad : {A : Type 0} (v : ℕ) (s : List ℕ) → bad ≡ ok v s → A
ok-bad v s e = let z : ◌≡◌ {A = ℕ} 0 1 = cc in absurd (omega arith)

further-sound : (v : ℕ) (s : List ℕ) (u : ℕ) (rest : List ℕ) → 0 < v → v < missing → further v s ≡ ok u rest
    → (number v ++ s ≡ number u ++ rest) × (u < missing)
unfolding further
further-sound v [] u rest hp hm e =
    let ev : v ≡ u = cc in
    let er : [] ≡ rest = cc in
    (ap₂ (λ (x : ℕ) (y : List ℕ). number x ++ y) ev er, omega arith)
further-sound v (b ∷ s) u rest hp hm e =
    ⊎_elim (λ p. stop p.1)
    (λ p. ⊎_elim (λ q. stop q.1)
    (λ q. ⊎_elim (λ r. ok-bad u rest r.1)
    (λ r. step p.0 q.0 r.0 (further-sound (v * 10 + (b - 48)) s u rest (omega arith) (omega (arith, leb-false missing (v * 10 + (b - 48)) r.0)) r.1))
    (cond_cases _ _ _ _ q.1))
    (cond_cases _ _ _ _ p.1))
    (cond_cases _ _ _ _ e)
  where
    stop : ok v (b ∷ s) ≡ ok u rest → (number v ++ b ∷ s ≡ number u ++ rest) × (u < missing)
    stop q =
        let ev : v ≡ u = cc in
        let er : b ∷ s ≡ rest = cc in
        (ap₂ (λ (x : ℕ) (y : List ℕ). number x ++ y) ev er, omega arith)

    step : ltb b 48 ≡ false → ltb 57 b ≡ false → leb missing (v * 10 + (b - 48)) ≡ false
        → (number (v * 10 + (b - 48)) ++ s ≡ number u ++ rest) × (u < missing)
        → (number v ++ b ∷ s ≡ number u ++ rest) × (u < missing)
    step p q r ih =
        let lo : 48 ≤ b = ltb-false b 48 p in
        let hi : b ≤ 57 = ltb-false 57 b q in (
          sym (append_assoc (number v) (b ∷ []) s)
              ∙ ap (λ (x : ℕ). (number v ++ (x ∷ [])) ++ s) {x = b} {y = 48 + (b - 48)} (omega arith)
              ∙ ap (λ (x : List ℕ). x ++ s) (sym (number_step v (b - 48) hp (omega arith)))
              ∙ ih.0,
          ih.1,
        )

-- what is read was written
pub front-sound : (s : List ℕ) (u : ℕ) (rest : List ℕ) → front s ≡ ok u rest → (s ≡ field u ++ rest) × (u ≤ missing)
unfolding front
front-sound [] u rest e = ok-bad u rest e
front-sound (b ∷ s) u rest e =
    ⊎_elim (λ p. dash (eqb-true b 45 p.0) p.1)
    (λ p. ⊎_elim (λ q. nought (eqb-true b 48 q.0) q.1)
    (λ q. ⊎_elim (λ r. ok-bad u rest r.1)
    (λ r. ⊎_elim (λ t. ok-bad u rest t.1)
    (λ t. digits (ltb-false b 49 r.0) (ltb-false 57 b t.0) t.1)
    (cond_cases _ _ _ _ r.1))
    (cond_cases _ _ _ _ q.1))
    (cond_cases _ _ _ _ p.1))
    (cond_cases _ _ _ _ e)
  where
    dash : b ≡ 45 → ok missing s ≡ ok u rest → (b ∷ s ≡ field u ++ rest) × (u ≤ missing)
    dash h q =
        let eu : missing ≡ u = cc in
        let er : s ≡ rest = cc in
        (ap₂ (λ (x : ℕ) (y : List ℕ). x ∷ y) h er ∙ sym (field-missing rest) ∙ ap (λ (x : ℕ). field x ++ rest) eu, omega arith)

    nought : b ≡ 48 → ok 0 s ≡ ok u rest → (b ∷ s ≡ field u ++ rest) × (u ≤ missing)
    nought h q =
        let eu : 0 ≡ u = cc in
        let er : s ≡ rest = cc in
        (ap₂ (λ (x : ℕ) (y : List ℕ). x ∷ y) h er ∙ sym (field-zero rest) ∙ ap (λ (x : ℕ). field x ++ rest) eu, omega arith)

    digits : 49 ≤ b → b ≤ 57 → further (b - 48) s ≡ ok u rest → (b ∷ s ≡ field u ++ rest) × (u ≤ missing)
    digits lo hi q =
        let f = further-sound (b - 48) s u rest (omega arith) (omega arith) q in (
          ap (λ (x : ℕ). x ∷ s) {x = b} {y = 48 + (b - 48)} (omega arith)
              ∙ ap (λ (x : List ℕ). x ++ s) (sym (number_short (b - 48) (omega arith)))
              ∙ f.0
              ∙ ap (λ (x : List ℕ). x ++ rest) (sym (field-number u f.1)),
          omega (arith, f.1),
        )

number-pos : (n : ℕ) → 0 < length (number n)
number-pos n =
    ⊎_elim (λ h. omega (arith, ap length (number_short n h)))
    (λ h. omega (arith, ap length (number-long n h), length-append (number (n / 10)) ((48 + n % 10) ∷ [])))
    (split n 10)

-- a field has a byte
pub field-pos : (v : ℕ) → v ≤ missing → 0 < length (field v)
field-pos v h =
    ⊎_elim (λ l. omega (arith, number-pos v, ap length (field-number v l)))
    (λ g. at-missing v (omega arith))
    (split v missing)
  where
    at-missing : (v : ℕ) → v ≡ missing → 0 < length (field v)
    at-missing v q = rw q (omega (arith, length-append (field missing) [], ap length (field-missing [])))
