-- Lists that grow: one more member, and going on.
-- Assumes nothing.
use Rattle.std.specs.Prelude.{◌≡◌, ℕ, zero, suc, ◌+◌, ◌<◌, ◌≤◌, true, not, ◌⊎◌, List, [], ◌∷◌, ◌++◌, length, get_or, set, replicate, take}
use mathlib.Core.Path.{refl, sym, ap, subst, ◌∙◌}
use mathlib.Core.Logic.{inl, inr, ⊎_elim}
use mathlib.Core.Bool.{true≢false}
use mathlib.Core.List.Memᴰ
use mathlib.Core.List.{Memᴰ}
use native.Mathlib.Nat.{not-suc-le-zero}
use native.Mathlib.Numerals.{add-one}
use native.Mathlib.Decide.{ℕ_discrete}
use native.Mathlib.Omega.{arith}
use lib.ListN.{length-set, length-replicate, get_or-append}
use lib.Seq.{get_or-set_same, get_or-set_other, length-take-le}
use Rattle.std.proofs.lemmas.List.{get_or_push, length_push, take_more_set}
use Rattle.lists.specs.Words.{is_zero, has, ones}
use Rattle.lists.proofs.Laws.{mark-in, mark-out, ones-zeros, has-yes, has-not}
use Rattle.request_queue.specs.declared.inner.Queue.{Queue}
use Rattle.request_queue.specs.inner.Growing.{node_limit, Listing, Listed, Standing, Grew, Grown, among, given, chosen}
use Rattle.request_queue.specs.inner.Lent.{Queued, Kept}

-- a set with a place that is out has fewer members than places, and one more with that place in
pub ones-open : (s : List ℕ) (i : ℕ) → i < length s → get_or s i 0 ≡ 0 → ones s < length s
ones-open [] i l e = absurd (not-suc-le-zero l)
ones-open (zero ∷ s) i l e = omega (arith, ones-le s)
  where
    ones-le : (s : List ℕ) → ones s ≤ length s
    ones-le [] = omega arith
    ones-le (zero ∷ s) = omega (arith, ones-le s)
    ones-le (suc x ∷ s) = omega (arith, ones-le s)
ones-open (suc x ∷ s) zero l e = absurd (omega arith)
ones-open (suc x ∷ s) (suc i) l e = omega (arith, ones-open s i (omega arith) e)

pub ones-set : (s : List ℕ) (i x : ℕ) → i < length s → get_or s i 0 ≡ 0 → ones (set s i (suc x)) ≡ suc (ones s)
ones-set [] i x l e = absurd (not-suc-le-zero l)
ones-set (zero ∷ s) zero x l e = refl
ones-set (suc y ∷ s) zero x l e = absurd (omega arith)
ones-set (zero ∷ s) (suc i) x l e = ones-set s i x (omega arith) e
ones-set (suc y ∷ s) (suc i) x l e = ap suc (ones-set s i x (omega arith) e)

-- where nothing is marked, nothing is listed
pub none-listed : (n : ℕ) → Listed (replicate n 0) []
none-listed n = record { all = no_ones n; placed = λ i l. absurd (omega arith); listed = λ x e. absurd (none n x e) }
  where
    no_ones : (n : ℕ) → ones (replicate n 0) ≡ 0
    no_ones zero = refl
    no_ones (suc n) = no_ones n

    none : (n x : ℕ) → has (replicate n 0) x ≡ true → ⊥
    none zero x e = true≢false (sym e)
    none (suc n) zero e = true≢false (sym e)
    none (suc n) (suc x) e = none n x e

pub none-standing : (n : ℕ) (queue : List ℕ) → n ≤ node_limit → length queue ≡ n → Standing (replicate n 0) queue 0
none-standing n queue few room = record { few = omega (arith, few, length-replicate {A = ℕ} n 0); room = room ∙ sym (length-replicate {A = ℕ} n 0); within = omega arith; listed = none-listed n }

-- where a place is out, the slice has room for one more
pub count_room : {marks : List ℕ} (queue : List ℕ) {count : ℕ} → length queue ≡ length marks → count ≤ length queue → Listed marks (take count queue) → (x : ℕ) → x < length marks → get_or marks x 0 ≡ 0 → count < length queue
count_room {marks} queue {count} room within listed x l e = omega (arith, listed.all, length-take-le count queue within, room, ones-open marks x l e)

-- nothing more
pub grown_none : (f : ℕ → Type 0) (q : Listing) → ((x : ℕ) → f x → has q.marks x ≡ true) → Grown f q q
grown_none f q k = record {
  grew = record { size = refl; more = omega arith; front = λ i l. refl; old = λ x e. refl; only = λ x e. inl e; listed = λ l. l };
  all = k;
}

-- the members stay
pub grew-has : {f : ℕ → Type 0} {q q' : Listing} → Grew f q q' → (x : ℕ) → has q.marks x ≡ true → has q'.marks x ≡ true
grew-has g x e = ap (λ (i : ℕ). not (is_zero i)) (g.old x e) ∙ e

-- twice in turn
module _ {f g h : ℕ → Type 0} {q q' q'' : Listing} where
  pub grew-on : ((x : ℕ) → f x → h x) → ((x : ℕ) → g x → (has q'.marks x ≡ true) ⊎ h x) → Grew f q q' → Grew g q' q'' → Grew h q q''
  grew-on u v a b = record {
    size = b.size ∙ a.size;
    more = omega (arith, a.more, b.more);
    front = λ i l. b.front i (omega (arith, a.more)) ∙ a.front i l;
    old = λ x e. b.old x (grew-has a x e) ∙ a.old x e;
    only = λ x e. ⊎_elim (earlier x) (λ r. ⊎_elim (earlier x) inr (v x r)) (b.only x e);
    listed = λ l. b.listed (a.listed l);
  }
    where
      earlier : (x : ℕ) → has q'.marks x ≡ true → (has q.marks x ≡ true) ⊎ h x
      earlier x e = ⊎_elim inl (λ r. inr (u x r)) (a.only x e)

  pub grown-on : ((x : ℕ) → f x → h x) → ((x : ℕ) → g x → h x) → ((x : ℕ) → h x → f x ⊎ g x) → Grown f q q' → Grown g q' q'' → Grown h q q''
  grown-on u v w a b = record {
    grew = grew-on u (λ x r. inr (v x r)) a.grew b.grew;
    all = λ x r. ⊎_elim (λ o. grew-has b.grew x (a.all x o)) (b.all x) (w x r);
  }

-- a loop over a list: one member more
pub grown-more : (xs : List ℕ) (x : ℕ) {q q' q'' : Listing} → Grown (among xs) q q' → Grown (λ y. y ≡ x) q' q'' → Grown (among (xs ++ x ∷ [])) q q''
grown-more xs x a b =
    grown-on (λ y m. Memᴰ.append_left (x ∷ []) m) (λ y e. Memᴰ.append_right xs (Memᴰ.head e))
    (λ y m. ⊎_elim inl (λ s. inr (Memᴰ.eq_of_singleton s)) (Memᴰ.append_cases xs m)) a b

-- a loop over what gives some: one that gives none, and one that gives x alone
module _ (gives : ℕ → ℕ → Type 0) (xs : List ℕ) (v : ℕ) {q q' : Listing} (a : Grown (given gives xs) q q') where
  first_ones : (x : ℕ) → given gives xs x → given gives (xs ++ v ∷ []) x
  first_ones x g = (g.0, Memᴰ.append_left (v ∷ []) g.1, g.2)

  split : {f : ℕ → Type 0} → ((x : ℕ) → gives v x → f x) → (x : ℕ) → given gives (xs ++ v ∷ []) x → given gives xs x ⊎ f x
  split k x g = ⊎_elim (λ m. inl (g.0, m, g.2)) (λ s. inr (k x (subst (λ (w : ℕ). gives w x) (Memᴰ.eq_of_singleton s) g.2))) (Memᴰ.append_cases xs g.1)

  pub given-pass : ((x : ℕ) → gives v x → ⊥) → Grown (given gives (xs ++ v ∷ [])) q q'
  given-pass none = grown-on first_ones (λ x z. absurd z) (split none) a (grown_none (λ (x : ℕ). ⊥) q' (λ x z. absurd z))

  pub given-put : (x : ℕ) → gives v x → ((y : ℕ) → gives v y → x ≡ y) → {q'' : Listing} → Grown (λ y. y ≡ x) q' q'' → Grown (given gives (xs ++ v ∷ [])) q q''
  given-put x g only b =
      grown-on first_ones (λ y e. (v, Memᴰ.append_right xs (Memᴰ.head refl), subst (gives v) (sym e) g)) (split (λ y h. sym (only y h))) a b

-- the marked ones of a list: one that is out, and one that is in
module _ (marks xs : List ℕ) (x : ℕ) {q q' : Listing} (a : Grown (given (chosen marks) xs) q q') where
  pub chosen-pass : get_or marks x 0 ≡ 0 → Grown (given (chosen marks) (xs ++ x ∷ [])) q q'
  chosen-pass e = given-pass (chosen marks) xs x a (λ y h. true≢false (sym h.1 ∙ has-not marks x e))

  pub chosen-put : (get_or marks x 0 ≡ 0 → ⊥) → {q'' : Listing} → Grown (λ y. y ≡ x) q' q'' → Grown (given (chosen marks) (xs ++ x ∷ [])) q q''
  chosen-put k b = given-put (chosen marks) xs x a x (refl, has-yes marks x k) (λ y h. sym h.0) b

-- one more
module _ (marks list : List ℕ) (x : ℕ) where
  abbrev marks' : List ℕ
  marks' = set marks x (length list + 1)

  abbrev list' : List ℕ
  list' = list ++ x ∷ []

  pub push-new : x < length marks → get_or marks x 0 ≡ 0 → Grown (λ y. y ≡ x) (record { marks = marks; list = list }) (record { marks = marks'; list = list' })
  push-new l e = record {
    grew = record {
      size = length-set marks x (length list + 1);
      more = omega (arith, longer);
      front = front;
      old = has-old;
      only = λ y g. new-only y g (ℕ_discrete y x);
      listed = λ h. record {
        all = ap (λ (j : ℕ). ones (set marks x j)) (add-one (length list)) ∙ ones-set marks x (length list) l e ∙ ap suc h.all ∙ sym (add-one (length list)) ∙ sym longer;
        placed = λ i b. new-placed h i (omega (arith, longer)) (ℕ_discrete i (length list));
        listed = λ y g. new-listed h y (new-only y g (ℕ_discrete y x));
      };
    };
    all = λ y q. mark-in (get_or marks' y 0) (λ z. omega (arith, z, ap (λ (i : ℕ). get_or marks' i 0) q, at_x));
  }
    where
      longer : length list' ≡ length list + 1
      longer = length_push list x

      at_x : get_or marks' x 0 ≡ length list + 1
      at_x = get_or-set_same marks x (length list + 1) 0 l

      old-mark : (y : ℕ) → (y ≡ x → ⊥) → get_or marks' y 0 ≡ get_or marks y 0
      old-mark y k = get_or-set_other marks x y (length list + 1) 0 k

      has-old : (y : ℕ) → has marks y ≡ true → get_or marks' y 0 ≡ get_or marks y 0
      has-old y g = old-mark y (λ q. true≢false (sym g ∙ ap (has marks) q ∙ mark-out (get_or marks x 0) e))

      last : get_or list' (length list) 0 ≡ x
      last = get_or_push list x 0 (length list) refl

      front : (i : ℕ) → i < length list → get_or list' i 0 ≡ get_or list i 0
      front i b = get_or-append list (x ∷ []) 0 i b

      new-only : (y : ℕ) → has marks' y ≡ true → Dec (y ≡ x) → (has marks y ≡ true) ⊎ (y ≡ x)
      new-only y g (yes q) = inr q
      new-only y g (no k) = inl (sym (ap (λ (i : ℕ). not (is_zero i)) (old-mark y k)) ∙ g)

      new-placed : Listed marks list → (i : ℕ) → i < length list + 1 → Dec (i ≡ length list) → (get_or list' i 0 < length marks') × (get_or marks' (get_or list' i 0) 0 ≡ i + 1)
      new-placed h i b (yes q) =
          let z : get_or list' i 0 ≡ x = ap (λ (j : ℕ). get_or list' j 0) q ∙ last in
          (omega (arith, length-set marks x (length list + 1), z), ap (λ (y : ℕ). get_or marks' y 0) z ∙ at_x ∙ ap (λ (j : ℕ). j + 1) (sym q))
      new-placed h i b (no k) =
          let l : i < length list = omega arith in
          let p = h.placed i l in
          let z : get_or list' i 0 ≡ get_or list i 0 = front i l in (
            omega (arith, length-set marks x (length list + 1), z, p.0),
            ap (λ (y : ℕ). get_or marks' y 0) z ∙ has-old (get_or list i 0) (mark-in (get_or marks (get_or list i 0) 0) (λ w. omega (arith, w, p.1))) ∙ p.1,
          )

      new-listed : Listed marks list → (y : ℕ) → (has marks y ≡ true) ⊎ (y ≡ x) → (i : ℕ) × (i < length list') × (get_or list' i 0 ≡ y)
      new-listed h y (inl g) = let p = h.listed y g in (p.0, omega (arith, p.1, longer), front p.0 p.1 ∙ p.2)
      new-listed h y (inr q) = (length list, omega (arith, longer), last ∙ sym q)

-- the same in the slices
module _ {marks queue : List ℕ} {count : ℕ} (h : Standing marks queue count) (x : ℕ) (l : x < length marks) (e : get_or marks x 0 ≡ 0) where
  here : count < length queue
  here = count_room queue h.room h.within h.listed x l e

  pub put-new : Grown (λ y. y ≡ x) (record { marks = marks; list = take count queue }) (record { marks = set marks x (count + 1); list = take (count + 1) (set queue count x) })
  put-new =
      rw (take_more_set queue count x here)
      (subst (λ (n : ℕ). Grown (λ y. y ≡ x) (record { marks = marks; list = take count queue }) (record { marks = set marks x (n + 1); list = take count queue ++ x ∷ [] }))
      (length-take-le count queue h.within) (push-new marks (take count queue) x l e))

  pub put-standing : Standing (set marks x (count + 1)) (set queue count x) (count + 1)
  put-standing = record {
    few = omega (arith, h.few, length-set marks x (count + 1));
    room = length-set queue count x ∙ h.room ∙ sym (length-set marks x (count + 1));
    within = omega (arith, here, length-set queue count x);
    listed = put-new.grew.listed h.listed;
  }

-- no more are listed than there are places
pub listed-fits : {marks list : List ℕ} → Listed marks list → length list ≤ length marks
listed-fits {marks} h = omega (arith, h.all, ones-zeros marks)

-- the slices stay where nothing is written, and through two calls
pub kept_none : (q : Queue) → Queued q → Kept q q
kept_none q h = record { marks = refl; queue = refl; queued = h }

pub kept-on : {q q' q'' : Queue} → Kept q q' → Kept q' q'' → Kept q q''
kept-on a b = record { marks = b.marks ∙ a.marks; queue = b.queue ∙ a.queue; queued = b.queued }
