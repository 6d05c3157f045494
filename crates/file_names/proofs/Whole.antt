-- The steps over an input ask for what its lines do, in whatever pieces it comes.
-- Assumes nothing.
use Rattle.tables.specs.declared.Refusal.TheVariants.{Text, PastSeason}
use mathlib.Core.Path.{◌≡◌, refl, sym, ap, ap₂, ◌∙◌}
use mathlib.Core.Logic.{◌⊎◌, inl, inr, ⊎_elim}
use Rattle.std.specs.Prelude.{Some}
use mathlib.Core.Bool.{Bool, true, false, cond, ◌&&◌}
use mathlib.Core.List.{List, [], ◌∷◌, ◌++◌, foldl, foldl-append, flatten, append_assoc, append-nil}
use Prim.Native.Nat.{ℕ, zero, suc, ◌+◌, ◌≤◌, ◌<◌}
use native.Mathlib.Omega.{arith}
use native.Mathlib.Numerals.{add-one}
use lib.ListN.{length, take, set, length-append, length-set}
use lib.Seq.{take-suc-set}
use lib.Dec.{eqb, ltb, leb, eqb-suc-zero}
use borrow.Author.Tests.{ne_eqb, eqb-true, eqb-false, lt-ltb, le-ltb, le-leb, lt-leb, ltb-true, ltb-false}
use Rattle.lists.specs.Words.{elem}
use Rattle.lists.proofs.Laws.{both, and-out}
use Rattle.file_names.specs.declared.Names.{Names}
use Rattle.file_names.specs.Asked.{Asked, File, Refused, asked_by, opened, lines_of, in_turn, asked}
use Rattle.file_names.specs.Steps.{begun, turn_of_line, turn_at, names_after, kept_after, finished, due}
use Rattle.file_names.specs.Whole.{Run, took, took_piece, told_in_all, PiecesAskAsTheWhole}
use Rattle.file_names.proofs.Lines.{Plain, none, plain-last, line-ends, line-last, zero-last}

-- a line's length as it is known
abbrev capped : ℕ → ℕ
capped k = cond (ltb 255 k) 256 k

split : (k : ℕ) → (255 < k) ⊎ (k ≤ 255)
split k = ⊎_elim (λ e. inl (ltb-true 255 k e)) (λ e. inr (ltb-false 255 k e)) (both (ltb 255 k))

capped-long : (k : ℕ) → 255 < k → capped k ≡ 256
capped-long k h = simp (lt-ltb 255 k h)

capped-short : (k : ℕ) → k ≤ 255 → capped k ≡ k
capped-short k h = simp (le-ltb 255 k h)

capped-more : (k : ℕ) → cond (ltb 255 (capped k)) (capped k) (capped k + 1) ≡ capped (k + 1)
capped-more k =
    ⊎_elim
    (λ h. rw (capped-long k h) (sym (capped-long (k + 1) (omega arith))))
    (λ h. rw (capped-short k h, le-ltb 255 k h) (grown h))
    (split k)
  where
    grown : k ≤ 255 → k + 1 ≡ capped (k + 1)
    grown h = ⊎_elim (λ l. omega (arith, capped-long (k + 1) l)) (λ l. sym (capped-short (k + 1) l)) (split (k + 1))

-- what is known where that many lines may still come, and the one at hand has the bytes l
abbrev held : ℕ → List ℕ → Names
held left l = record { left = left; length = capped (length l); zero = elem 0 l; over = false }

-- what is known after 11
abbrev closed : Names
closed = record { left = 0; length = 0; zero = false; over = true }

-- the bytes kept are the line's, unless it is too long
record Kept (l name : List ℕ) : Type 0 where
  room : length name ≡ 255
  bytes : length l ≤ 255 → take (length l) name ≡ l

kept-none : (name : List ℕ) → length name ≡ 255 → Kept [] name
kept-none name e = record { room = e; bytes = λ h. refl }

kept_more : (left : ℕ) (l name : List ℕ) (b : ℕ) → (b ≡ 10 → ⊥) → Kept l name → Kept (l ++ (b ∷ [])) (kept_after (held left l) b name)
unfolding kept_after
kept_more left l name b n k = rw (ne_eqb b 10 n) (⊎_elim there past (split (length l + 1)))
  where
    longer : length (l ++ (b ∷ [])) ≡ length l + 1
    longer = length-append l (b ∷ [])

    past : length l + 1 ≤ 255 → Kept (l ++ (b ∷ [])) (cond (ltb (capped (length l)) 255) (set name (capped (length l)) b) name)
    past h =
        rw (capped-short (length l) (omega arith), lt-ltb (length l) 255 (omega arith))
        (record {
          room = length-set name (length l) b ∙ k.room;
          bytes = λ g. ap (λ (i : ℕ). take i (set name (length l) b)) (longer ∙ add-one (length l)) ∙ take-suc-set name (length l) b (omega (arith, k.room)) ∙ ap (λ (xs : List ℕ). xs ++ (b ∷ [])) (k.bytes (omega arith));
        })

    unchanged : 255 < length l + 1 → ltb (capped (length l)) 255 ≡ false
    unchanged h = ⊎_elim (λ g. ap (λ (i : ℕ). ltb i 255) (capped-long (length l) g)) (λ g. ap (λ (i : ℕ). ltb i 255) (capped-short (length l) g) ∙ le-ltb (length l) 255 (omega arith)) (split (length l))

    there : 255 < length l + 1 → Kept (l ++ (b ∷ [])) (cond (ltb (capped (length l)) 255) (set name (capped (length l)) b) name)
    there h = rw (unchanged h) (record { room = k.room; bytes = λ g. absurd (omega (arith, longer)) })

-- the end of a line
line-due : (left : ℕ) (l name : List ℕ) → Kept l name → due (Some (turn_of_line (held left l))) name ≡ asked_by l ∷ []
unfolding turn_of_line
line-due left l name k = ⊎_elim holds (whole l k) (both (elem 0 l))
  where
    holds : elem 0 l ≡ true → due (Some (turn_of_line (held left l))) name ≡ asked_by l ∷ []
    holds e =
        rw e
        (sym (ap (λ (x : Bool). cond x (File l) (Refused Text) ∷ []) (and-out (leb 1 (length l)) (leb (length l) 255 && false) (and-out (leb (length l) 255) false refl))))

    whole : (l : List ℕ) → Kept l name → elem 0 l ≡ false → due (Some (turn_of_line (held left l))) name ≡ asked_by l ∷ []
    whole [] k e = refl
    whole (b ∷ t) k e =
        ⊎_elim
        (λ h. simp (capped-long (suc (length t)) h, le-leb 1 (suc (length t)) (omega arith), lt-leb (suc (length t)) 255 h, e))
        (λ h. simp (le-leb 1 (suc (length t)) (omega arith), le-leb (suc (length t)) 255 h, eqb-suc-zero (length t), le-ltb 255 (suc (length t)) h, k.bytes h, e))
        (split (suc (length t)))

line-more : (left : ℕ) (l : List ℕ) (b : ℕ) → (b ≡ 10 → ⊥) → names_after (held (suc left) l) b ≡ held (suc left) (l ++ (b ∷ []))
unfolding names_after
line-more left l b n =
    rw (eqb-suc-zero left, ne_eqb b 10 n)
    (ap₂ (λ (k : ℕ) (z : Bool). record { left = suc left; length = k; zero = z; over = false }) (capped-more (length l) ∙ ap capped (sym (length-append l (b ∷ [])))) (sym (zero-last l b)))

-- what is asked for by the bytes that are left
unfoldable rest : Names → List ℕ → List ℕ → List Asked
rest n name [] = due (finished n) name
rest n name (b ∷ s) = due (turn_at n b) (kept_after n b name) ++ rest (names_after n b) (kept_after n b name) s

told-rest : (r : Run) (s : List ℕ) → told_in_all (foldl took r s) ≡ r.told ++ rest r.names r.kept s
unfolding rest
told-rest r [] = refl
told-rest r (b ∷ s) = told-rest (took r b) s ∙ append_assoc r.told (due (turn_at r.names b) (kept_after r.names b r.kept)) (rest (names_after r.names b) (kept_after r.names b r.kept) s)

rest-closed : (name s : List ℕ) → rest closed name s ≡ []
unfolding rest finished turn_at names_after
rest-closed name [] = refl
rest-closed name (b ∷ s) = rest-closed (kept_after closed b name) s

-- no line may come any more
rest-none : (name s : List ℕ) → rest (held zero []) name s ≡ in_turn zero (lines_of s)
unfolding rest finished turn_at names_after in_turn lines_of
rest-none name [] = refl
rest-none name (b ∷ s) = ap (λ (xs : List Asked). Refused PastSeason ∷ xs) (rest-closed (kept_after (held zero []) b name) s) ∙ sym (some (eqb b 10) (lines_of s))
  where
    some : (lf : Bool) (ls : List (List ℕ)) → in_turn zero (cond lf ([] ∷ ls) (opened b ls)) ≡ Refused PastSeason ∷ []
    some true ls = refl
    some false [] = refl
    some false (l ∷ ls) = refl

-- the last line without its LF
rest_end : (left : ℕ) (l name : List ℕ) → Plain l → Kept l name → rest (held (suc left) l) name [] ≡ in_turn (suc left) (lines_of (l ++ []))
unfolding rest finished in_turn lines_of
rest_end left [] name p k = refl
rest_end left (b ∷ t) name p k =
    rw (ne_eqb (capped (suc (length t))) 0 some) (line-due (suc left) (b ∷ t) name k)
    ∙ sym (ap (in_turn (suc left)) (ap lines_of (append-nil (b ∷ t)) ∙ line-last p))
  where
    some : capped (suc (length t)) ≡ 0 → ⊥
    some e = ⊎_elim (λ h. omega (arith, capped-long (suc (length t)) h)) (λ h. omega (arith, capped-short (suc (length t)) h)) (split (suc (length t)))

-- an LF ends the line at hand
rest-lf : (left : ℕ) (l name s : List ℕ) → Kept l name → rest (held (suc left) l) name (10 ∷ s) ≡ asked_by l ∷ rest (held left []) name s
unfolding rest turn_at names_after kept_after
rest-lf left l name s k =
    rw (eqb-suc-zero left)
    (ap₂ (λ (xs ys : List Asked). xs ++ ys) (line-due (suc left) l name k) (ap (λ (n : ℕ). rest (held n []) name s) (omega arith)))

-- any other byte is the line's
rest-byte : (left : ℕ) (l name : List ℕ) (b : ℕ) (s : List ℕ) → (b ≡ 10 → ⊥) → rest (held (suc left) l) name (b ∷ s) ≡ rest (held (suc left) (l ++ (b ∷ []))) (kept_after (held (suc left) l) b name) s
unfolding rest turn_at
rest-byte left l name b s n = rw (eqb-suc-zero left, ne_eqb b 10 n) (ap (λ (m : Names). rest m (kept_after (held (suc left) l) b name) s) (line-more left l b n))

-- the claim, of the bytes that are left
unfoldable Agrees : List ℕ → Type 0
Agrees s = (left : ℕ) (l name : List ℕ) → Plain l → Kept l name → rest (held (suc left) l) name s ≡ in_turn (suc left) (lines_of (l ++ s))

agrees-more : (b : ℕ) (s : List ℕ) → Agrees s → Agrees (b ∷ s)
unfolding Agrees in_turn
agrees-more b s again left l name p k = ⊎_elim (λ e. ended left (eqb-true b 10 e)) (λ e. grown (eqb-false b 10 e)) (both (eqb b 10))
  where
    ended : (left : ℕ) → b ≡ 10 → rest (held (suc left) l) name (b ∷ s) ≡ in_turn (suc left) (lines_of (l ++ b ∷ s))
    ended zero e = rw (e, line-ends s p) (rest-lf zero l name s k ∙ ap (λ (xs : List Asked). asked_by l ∷ xs) (rest-none name s))
    ended (suc left) e = rw (e, line-ends s p) (rest-lf (suc left) l name s k ∙ ap (λ (xs : List Asked). asked_by l ∷ xs) (again left [] name none (kept-none name k.room)))

    grown : (b ≡ 10 → ⊥) → rest (held (suc left) l) name (b ∷ s) ≡ in_turn (suc left) (lines_of (l ++ b ∷ s))
    grown n =
        rest-byte left l name b s n
        ∙ again left (l ++ (b ∷ [])) (kept_after (held (suc left) l) b name) (plain-last p n) (kept_more (suc left) l name b n k)
        ∙ ap (λ (xs : List ℕ). in_turn (suc left) (lines_of xs)) (append_assoc l (b ∷ []) s)

agrees : (s : List ℕ) → Agrees s
unfolding Agrees
agrees [] = rest_end
agrees (b ∷ s) = agrees-more b s (agrees s)

took_pieces : (r : Run) (pieces : List (List ℕ)) → foldl took_piece r pieces ≡ foldl took r (flatten pieces)
unfolding flatten
took_pieces r [] = refl
took_pieces r (p ∷ ps) = took_pieces (took_piece r p) ps ∙ sym (foldl-append took r p (flatten ps))

pub pieces-ask-as-the-whole : PiecesAskAsTheWhole
unfolding PiecesAskAsTheWhole asked Agrees
pieces-ask-as-the-whole name e pieces =
    let r : Run = record { names = begun; kept = name; told = [] } in
    ap told_in_all (took_pieces r pieces) ∙ told-rest r (flatten pieces) ∙ agrees (flatten pieces) 9999 [] name none (kept-none name e)
