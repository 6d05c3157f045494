-- Rendering is injective on tables: a text has one table at most.
-- Assumes nothing.
use Prim.Native.Nat.{ℕ, suc}
use Prim.Native.String.{String}
use native.Mathlib.Omega.{arith}
use mathlib.Core.Path.{◌≡◌, refl, sym, ap, ap₂, ◌∙◌}
use mathlib.Core.Bool.{true}
use mathlib.Core.List.{List, [], ◌∷◌, ◌++◌, append_assoc, append-nil}
use lib.ListN.{length, get_or}
use Rattle.lists.specs.Words.{every}
use Rattle.lists.proofs.Tests.{every-head}
use Rattle.tables.specs.Project.{Project, project}
use Rattle.form.specs.Form.{section, sections, names, lists, render, even, has_text, Renders}
use Rattle.form.proofs.Rows.{section-once}

-- lists of columns that are as many and as wide, none without a column
pub data Alike : List (List (List ℕ)) → List (List (List ℕ)) → Type 0 where
  none : Alike [] []
  more : {c d : List ℕ} {a b : List (List ℕ)} {cs bs : List (List (List ℕ))} → length a ≡ length b → Alike cs bs → Alike ((c ∷ a) ∷ cs) ((d ∷ b) ∷ bs)

pub sections-once : (ns : List String) (cs bs : List (List (List ℕ))) (x y : List ℕ) → length ns ≡ length cs → Alike cs bs
    → every even cs ≡ true → every even bs ≡ true → sections ns cs ++ x ≡ sections ns bs ++ y → (cs ≡ bs) × (x ≡ y)
unfolding sections
sections-once [] [] [] x y n none ea eb q = (refl, q)
sections-once [] ((c ∷ a) ∷ cs) ((d ∷ b) ∷ bs) x y n (more l r) ea eb q = absurd (omega arith)
sections-once (m ∷ ns) [] [] x y n none ea eb q = absurd (omega arith)
sections-once (m ∷ ns) ((c ∷ a) ∷ cs) ((d ∷ b) ∷ bs) x y n (more l r) ea eb q =
    let ha = every-head even (c ∷ a) cs ea in
    let hb = every-head even (d ∷ b) bs eb in
    let o =
    section-once m (c ∷ a) (d ∷ b) (sections ns cs ++ x) (sections ns bs ++ y) (ap suc l) (omega arith) ha.0 hb.0
    (sym (append_assoc (section m (c ∷ a)) (sections ns cs) x) ∙ q ∙ append_assoc (section m (d ∷ b)) (sections ns bs) y) in
    let i = sections-once ns cs bs x y (omega arith) r ha.1 hb.1 o.1 in
    (ap₂ (λ (h : List (List ℕ)) (t : List (List (List ℕ))). h ∷ t) o.0 i.0, i.1)
sections-once [] [] (_ ∷ bs) x y n l ea eb q = elim l [ ]
sections-once [] ([] ∷ cs) bs x y n l ea eb q = elim l [ ]
sections-once [] ((c ∷ a) ∷ cs) [] x y n l ea eb q = elim l [ ]
sections-once [] ((c ∷ a) ∷ cs) ([] ∷ bs) x y n l ea eb q = elim l [ ]
sections-once (m ∷ ns) [] (_ ∷ bs) x y n l ea eb q = elim l [ ]
sections-once (m ∷ ns) ([] ∷ cs) bs x y n l ea eb q = elim l [ ]
sections-once (m ∷ ns) ((c ∷ a) ∷ cs) [] x y n l ea eb q = elim l [ ]
sections-once (m ∷ ns) ((c ∷ a) ∷ cs) ([] ∷ bs) x y n l ea eb q = elim l [ ]

-- the lists of any two projects are as many and as wide
pub lists-alike : (p q : Project) → Alike (lists p) (lists q)
lists-alike p q =
    more refl
    (more refl
    (more refl
    (more refl
    (more refl
    (more refl
    (more refl
    (more refl
    (more refl
    (more refl
    (more refl
    (more refl
    (more refl
    (more refl
    (more refl none))))))))))))))

-- the project whose lists these are
abbrev pub project_of : List (List (List ℕ)) → Project
project_of ls =
    project
    (get_or (at 0 0) 0 0) (get_or (at 0 1) 0 0)
    (at 1 0) (at 1 1) (at 1 2) (at 1 3) (at 1 4) (at 1 5) (at 1 6) (at 1 7)
    (at 2 0) (at 2 1) (at 2 2)
    (at 3 0) (at 3 1)
    (at 4 0) (at 4 1)
    (at 5 0) (at 5 1)
    (at 6 0) (at 6 1)
    (at 7 0) (at 7 1)
    (at 8 0) (at 8 1) (at 8 2)
    (at 9 0) (at 9 1)
    (at 10 0)
    (at 11 0) (at 11 1)
    (at 12 0) (at 12 1)
    (at 13 0) (at 13 1)
    (at 14 0)
  where
    at : ℕ → ℕ → List ℕ
    at list column = get_or (get_or ls list []) column []

lists_of : (p : Project) → project_of (lists p) ≡ p
lists_of p = refl

-- a project is settled by its lists
pub lists-once : (p q : Project) → lists p ≡ lists q → p ≡ q
lists-once p q e = sym (lists_of p) ∙ ap project_of e ∙ lists_of q

-- and a table by its text, whatever follows
pub render-once : (p q : Project) (x y : List ℕ) → has_text p ≡ true → has_text q ≡ true → render p ++ x ≡ render q ++ y → (p ≡ q) × (x ≡ y)
unfolding render has_text
render-once p q x y tp tq e =
    let o = sections-once names (lists p) (lists q) x y refl (lists-alike p q) tp tq e in
    (lists-once p q o.0, o.1)

-- rendering is injective on tables
pub injective : (s : List ℕ) (p q : Project) → Renders s p → Renders s q → p ≡ q
injective s p q rp rq =
    (render-once p q [] [] rp.0 rq.0 (append-nil (render p) ∙ rp.1 ∙ sym rq.1 ∙ sym (append-nil (render q)))).0
