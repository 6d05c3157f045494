-- What was read is the text of one table, or of none.
-- Assumes nothing.
use Rattle.tables.specs.declared.Refusal.TheVariants.{Text}
use Rattle.std.specs.Prelude.{◌≡◌, ℕ, suc, ◌+◌, ◌-◌, ◌*◌, ◌/◌, ◌<◌, ◌≤◌, true, List, [], ◌∷◌, ◌++◌, map, length, get_or, drop, Option, Some, None, Ok, Err}
use native.Mathlib.Omega.{arith}
use native.Mathlib.Nat.{zero-mul, suc-mul, mul_comm, mul-div_cancel}
use mathlib.Core.Path.{refl, sym, ap, ap₂, ◌∙◌, subst}
use mathlib.Core.List.{append-nil, flatten}
use lib.ListN.{length-append, length-drop, length-map}
use lib.Seq.{sets, drop-length, drop-cons}
use Rattle.lists.specs.Words.{up_to, every}
use Rattle.lists.proofs.Tests.{every-head}
use Rattle.lists.proofs.Maps.{map-up_to-self}
use Rattle.lists.proofs.Fronts.{sets-front}
use Rattle.tables.specs.Project.{Project}
use Rattle.form.specs.Form.{transpose, row_count, rows_of, sections, names, lists, render, even, has_text}
use Rattle.form.proofs.Rows.{Rows, column-length, even-rows}
use Rattle.form.proofs.Injective.{Alike, sections-once, project_of}
use Rattle.form.proofs.Injective as form
use Rattle.form.proofs.Transposing.{transpose-length}
use Rattle.named_form.specs.NamedForm.{NameList, name_section, list_fits, RendersNamed}
use Rattle.name_list.specs.Lying.{NamesLie}
use Rattle.text_rows.specs.inner.Cells.{widths, heads, texts, Wholes, stops}
use Rattle.text_rows.specs.inner.Steps.{AllRead, AllIs, start_of_text, Steps}
use Rattle.listing.specs.inner.Columns.{cut, Climbs}
use Rattle.listing.specs.Reading.{columns_of, values_of, bounds_of, tails, Reads}
use Rattle.text_rows.specs.declared.inner.Cursor.{Cursor}
use Rattle.listing.proofs.Cuts.{tails-length, flatten-append}
use Rattle.listing.proofs.Tables.{row_values, Shaped, no-list, a-list, Positive, all, over, all-wholes, from-wholes, cut-columns, stops-climb, stops-length, rows-size}

shaped-alike : (ws : List ℕ) (cs ds : List (List (List ℕ))) → Shaped ws cs → Shaped ws ds → Alike cs ds
shaped-alike [] [] [] no-list no-list = form.Alike.none
shaped-alike (w ∷ ws) ([] ∷ cs) (d ∷ ds) (a-list h l s) (a-list g m r) = absurd (omega arith)
shaped-alike (w ∷ ws) ((c ∷ a) ∷ cs) ([] ∷ ds) (a-list h l s) (a-list g m r) = absurd (omega arith)
shaped-alike (w ∷ ws) ((c ∷ a) ∷ cs) ((d ∷ b) ∷ ds) (a-list h l s) (a-list g m r) = let e : length a ≡ length b = omega arith in form.Alike.more e (shaped-alike ws cs ds s r)
shaped-alike [] [] (d ∷ ds) _ never = elim never [ ]
shaped-alike [] (_ ∷ cs) ds never _ = elim never [ ]
shaped-alike (w ∷ ws) [] ds never _ = elim never [ ]
shaped-alike (w ∷ ws) ([] ∷ cs) [] _ never = elim never [ ]
shaped-alike (w ∷ ws) ((c ∷ a) ∷ cs) [] _ never = elim never [ ]

lists-shaped : (p : Project) → Shaped widths (lists p)
lists-shaped p =
    a-list {w = 2} (omega arith) refl
    (a-list {w = 8} (omega arith) refl
    (a-list {w = 3} (omega arith) refl
    (a-list {w = 2} (omega arith) refl
    (a-list {w = 2} (omega arith) refl
    (a-list {w = 2} (omega arith) refl
    (a-list {w = 2} (omega arith) refl
    (a-list {w = 2} (omega arith) refl
    (a-list {w = 3} (omega arith) refl
    (a-list {w = 2} (omega arith) refl
    (a-list {w = 1} (omega arith) refl
    (a-list {w = 2} (omega arith) refl
    (a-list {w = 2} (omega arith) refl
    (a-list {w = 2} (omega arith) refl
    (a-list {w = 1} (omega arith) refl no-list))))))))))))))

shaped-positive : {ws : List ℕ} {cs : List (List (List ℕ))} → Shaped ws cs → Positive ws
shaped-positive no-list = all
shaped-positive (a-list h l s) = over h (shaped-positive s)

shaped-count : (ws : List ℕ) (cs : List (List (List ℕ))) → Shaped ws cs → length cs ≡ length ws
shaped-count [] [] no-list = refl
shaped-count (w ∷ ws) (c ∷ cs) (a-list h l t) = ap suc (shaped-count ws cs t)
shaped-count [] (c ∷ cs) never = elim never [ ]
shaped-count (w ∷ ws) [] never = elim never [ ]

-- each list spelt out: the i-th and those behind it
abbrev spelt : ℕ → List ℕ → List (List (List ℕ)) → List (List (List ℕ))
spelt i [] cs = []
spelt i (w ∷ ws) cs = map (λ (k : ℕ). get_or (get_or cs i []) k []) (up_to w) ∷ spelt (suc i) ws cs

spelt-out : (i : ℕ) (ws : List ℕ) (cs ds : List (List (List ℕ))) → Shaped ws ds → ds ≡ drop i cs → spelt i ws cs ≡ ds
spelt-out i [] cs [] no-list e = refl
spelt-out i (w ∷ ws) cs (d ∷ ds) (a-list h l s) e =
    ap₂ (λ (x : List (List ℕ)) (xs : List (List (List ℕ))). x ∷ xs)
    (ap₂ (λ (x : List (List ℕ)) (n : ℕ). map (λ (k : ℕ). get_or x k []) (up_to n)) first (sym l) ∙ map-up_to-self [] d)
    (spelt-out (suc i) ws cs ds s others)
  where
    inside : i < length cs
    inside = omega (arith, ap length e, length-drop i cs)

    cons : d ∷ ds ≡ get_or cs i [] ∷ drop (suc i) cs
    cons = e ∙ drop-cons cs i [] inside

    first : get_or cs i [] ≡ d
    first = cc cons

    others : ds ≡ drop (suc i) cs
    others = cc cons
spelt-out i [] cs (d ∷ ds) never e = elim never [ ]
spelt-out i (w ∷ ws) cs [] never e = elim never [ ]

single : (x : List ℕ) → length x ≡ 1 → get_or x 0 0 ∷ [] ≡ x
single [] l = absurd (omega arith)
single (a ∷ []) l = refl
single (a ∷ b ∷ xs) l = absurd (omega arith)

-- lists whose first has one row are those of a project
lists_of : (cs : List (List (List ℕ))) → Shaped widths cs → every even cs ≡ true → row_count (get_or cs 0 []) ≡ 1 → lists (project_of cs) ≡ cs
lists_of cs s e one =
    ap₂ (λ (x y : List ℕ). (x ∷ y ∷ []) ∷ drop 1 (lists (project_of cs))) (single (get_or (get_or cs 0 []) 0 []) (at 0 (omega arith))) (single (get_or (get_or cs 0 []) 1 []) (at 1 (omega arith)))
    ∙ spelt-out 0 widths cs cs s refl
  where
    at : (k : ℕ) → k < 2 → length (get_or (get_or cs 0 []) k []) ≡ 1
    at k h = first cs s e k h ∙ one
      where
        first : (cs : List (List (List ℕ))) → Shaped widths cs → every even cs ≡ true → (k : ℕ) → k < 2 → length (get_or (get_or cs 0 []) k []) ≡ row_count (get_or cs 0 [])
        first (c ∷ cs) (a-list h l s) e k g = column-length c (every-head even c cs e).0 k (omega arith)
        first [] never e k g = elim never [ ]

-- columns of one length
flat-size : (n : ℕ) (c : List (List ℕ)) → ((k : ℕ) → k < length c → length (get_or c k []) ≡ n) → length (flatten c) ≡ length c * n
unfolding flatten
flat-size n [] h = sym (zero-mul n)
flat-size n (x ∷ xs) h =
    length-append x (flatten xs) ∙ ap₂ ◌+◌ (h 0 (omega arith)) (flat-size n xs (λ k l. h (suc k) (omega arith))) ∙ omega (arith, suc-mul (length xs) n)

-- the values of a list of w columns
list-size : (w : ℕ) (c : List (List ℕ)) → length c ≡ w → even c ≡ true → length (row_values c) ≡ row_count c * w
list-size w c l e =
    let r : Rows w (rows_of c) = rw l at (even-rows c e) in
    rows-size w (rows_of c) r ∙ ap (λ (i : ℕ). i * w) (transpose-length (row_count c) c)

-- row by row and column by column there are as many values
same_size : (ws : List ℕ) (cs : List (List (List ℕ))) → Shaped ws cs → every even cs ≡ true → length (flatten (map row_values cs)) ≡ length (flatten (flatten cs))
unfolding flatten
same_size [] [] no-list e = refl
same_size (w ∷ ws) (c ∷ cs) (a-list h l s) e =
    let f = every-head even c cs e in
    let one : length (row_values c) ≡ length (flatten c) =
    list-size w c l f.0
    ∙ ap (λ (k : ℕ). row_count c * k) (sym l)
    ∙ mul_comm (row_count c) (length c)
    ∙ sym (flat-size (row_count c) c (column-length c f.0)) in
    length-append (row_values c) (flatten (map row_values cs))
    ∙ ap₂ ◌+◌ one (same_size ws cs s f.1)
    ∙ sym (length-append (flatten c) (flatten (flatten cs)))
    ∙ ap length (sym (flatten-append c (flatten cs)))
same_size [] (c ∷ cs) never e = elim never [ ]
same_size (w ∷ ws) [] never e = elim never [ ]

-- a list of two columns and one row
settled : (c : List (List ℕ)) → length c ≡ 2 → row_count c ≡ 1 → row_values c ≡ get_or (get_or c 0 []) 0 0 ∷ get_or (get_or c 1 []) 0 0 ∷ []
unfolding transpose flatten
settled [] l n = absurd (omega arith)
settled (a ∷ []) l n = absurd (omega arith)
settled (a ∷ b ∷ []) l n = ap (λ (k : ℕ). flatten (transpose k (a ∷ b ∷ []))) n
settled (a ∷ b ∷ c ∷ cs) l n = absurd (omega arith)

-- lists of the columns cs, with these values row by row, whose first has one row: that row, and the columns of the others
record Behind (values : List (List ℕ)) (cs : List (List (List ℕ))) (post : List ℕ) : Type 0 where
  runtime : get_or (flatten values ++ post) 0 0 ≡ get_or (get_or (get_or cs 0 []) 0 []) 0 0
  dynamic : get_or (flatten values ++ post) 1 0 ≡ get_or (get_or (get_or cs 0 []) 1 []) 0 0
  size : length (flatten values) ≡ 2 + length (flatten (flatten (drop 1 cs)))
  climbs : (limit : ℕ) → length (flatten values) ≤ limit → Climbs 2 (drop 1 (stops 0 values)) limit
  columns : cut (drop 1 widths) (drop 1 (stops 0 values)) 2 (flatten values ++ post) ≡ flatten (drop 1 cs)

behind : (cs : List (List (List ℕ))) → Shaped widths cs → every even cs ≡ true → row_count (get_or cs 0 []) ≡ 1 → (post : List ℕ)
    → Behind (map row_values cs) cs post
unfolding flatten stops
behind (c ∷ cs) (a-list h l s) e one post =
    let f = every-head even c cs e in
    let x : ℕ = get_or (get_or c 0 []) 0 0 in
    let y : ℕ = get_or (get_or c 1 []) 0 0 in
    subst (λ (v : List ℕ). Behind (v ∷ map row_values cs) (c ∷ cs) post) (sym (settled c l one))
    (record {
      runtime = refl;
      dynamic = refl;
      size = omega (arith, same_size (drop 1 widths) cs s f.1);
      climbs = λ limit n. stops-climb 2 (map row_values cs) limit (omega arith);
      columns = cut-columns (drop 1 widths) cs 2 (x ∷ y ∷ []) post s f.1 refl;
    })
behind [] never e one post = elim never [ ]

-- a list over which as long a one is stored
over-whole : (l xs : List ℕ) → length xs ≡ length l → sets l 0 xs ≡ xs
over-whole l xs e = sets-front l xs (omega arith) ∙ ap (λ (n : ℕ). xs ++ drop n l) e ∙ ap (λ (r : List ℕ). xs ++ r) (drop-length l) ∙ append-nil xs

-- the text of a table is the text of whole rows, and the list of names behind it
module _ (s : List ℕ) (p : Project) (l : NameList) (r : RendersNamed s p l) where
  vss : List (List ℕ)
  vss = map row_values (lists p)

  row-text : Wholes heads vss × (s ≡ texts heads vss ++ name_section l)
  unfolding has_text render vss RendersNamed
  row-text =
      let w = all-wholes names widths (lists p) refl (lists-shaped p) r.0 in
      (w.0, sym r.2 ∙ ap (λ (x : List ℕ). x ++ name_section l) (sym w.1))

  pub read_off : (d d' e e' : List ℕ) → AllIs s heads d d' e e' 0 start_of_text None → ⊥
  read_off d d' e e' a = a vss (name_section l) row-text.0 row-text.1

-- all lists were read, up to `at`
module _ (s d e : List ℕ) (at k : ℕ) (d' e' : List ℕ) (a : AllRead s heads 0 0 d e 0 at k d' e') where
  pub found : (cs : List (List (List ℕ))) × Shaped widths cs × (every even cs ≡ true) × (a.vss ≡ map row_values cs)
  found = from-wholes names widths a.vss refl (shaped-positive (lists-shaped (project_of []))) a.wholes

  found-count : length found.0 ≡ 15
  found-count = shaped-count widths found.0 found.1

  stops-count : length (stops 0 a.vss) ≡ 15
  stops-count = stops-length 0 a.vss ∙ ap length found.3 ∙ length-map found.0 row_values ∙ found-count

  found-text : s ≡ sections names found.0 ++ drop at s
  found-text =
      a.text
      ∙ ap (λ (v : List (List ℕ)). texts heads v ++ drop at s) found.3
      ∙ ap (λ (x : List ℕ). x ++ drop at s) (all-wholes names widths found.0 refl found.1 found.2).1

  -- no other table
  same : (p : Project) (l : NameList) → RendersNamed s p l → (found.0 ≡ lists p) × (drop at s ≡ name_section l)
  unfolding has_text render RendersNamed
  same p l r =
      sections-once names found.0 (lists p) (drop at s) (name_section l) (sym found-count) (shaped-alike widths found.0 (lists p) found.1 (lists-shaped p)) found.2 r.0
      (sym found-text ∙ sym r.2)

  module _ (le : length e ≡ 15) where
    ends-stops : e' ≡ stops 0 a.vss
    ends-stops = a.noted ∙ over-whole e (stops 0 a.vss) (stops-count ∙ sym le)

    pub ends-size : length e' ≡ 15
    ends-size = ap length ends-stops ∙ stops-count

    -- the ends of the settings and of the modules
    first-sizes : (get_or e' 0 0 ≡ row_count (get_or found.0 0 []) * 2) × (get_or e' 1 0 ≡ row_count (get_or found.0 0 []) * 2 + row_count (get_or found.0 1 []) * 8)
    unfolding stops
    first-sizes =
        let w = first found.0 found.1 found.2 in
        let q : e' ≡ stops 0 (map row_values found.0) = ends-stops ∙ ap (stops 0) found.3 in
        (ap (λ (x : List ℕ). get_or x 0 0) q ∙ w.0, ap (λ (x : List ℕ). get_or x 1 0) q ∙ w.1)
      where
        second : (n : ℕ) (cs : List (List (List ℕ))) → Shaped (drop 1 widths) cs → every even cs ≡ true
            → get_or (stops n (map row_values cs)) 0 0 ≡ n + row_count (get_or cs 0 []) * 8
        second n (c ∷ cs) (a-list h l t) f = ap (λ (k : ℕ). n + k) (list-size 8 c l (every-head even c cs f).0)
        second n [] never f = elim never [ ]

        first : (cs : List (List (List ℕ))) → Shaped widths cs → every even cs ≡ true
            → (get_or (stops 0 (map row_values cs)) 0 0 ≡ row_count (get_or cs 0 []) * 2)
            × (get_or (stops 0 (map row_values cs)) 1 0 ≡ row_count (get_or cs 0 []) * 2 + row_count (get_or cs 1 []) * 8)
        first (c ∷ cs) (a-list h l t) f =
            let g = every-head even c cs f in
            let n : 0 + length (row_values c) ≡ row_count c * 2 = omega (arith, list-size 2 c l g.0) in
            (n, second (0 + length (row_values c)) cs t g.1 ∙ ap (λ (k : ℕ). k + row_count (get_or cs 0 []) * 8) n)
        first [] never f = elim never [ ]

    -- not one row of settings
    pub read-unsettled : (get_or e' 0 0 ≡ 2 → ⊥) → (p : Project) (l : NameList) → RendersNamed s p l → ⊥
    read-unsettled n p l r = n (first-sizes.0 ∙ ap (λ (cs : List (List (List ℕ))). row_count (get_or cs 0 []) * 2) (same p l r).0)

    module _ (two : get_or e' 0 0 ≡ 2) where
      pub modules-end : 2 ≤ get_or e' 1 0
      modules-end = omega (arith, first-sizes.0, first-sizes.1)

      -- how many modules there are
      module-count : (get_or e' 1 0 - 2) / 8 ≡ row_count (get_or found.0 1 [])
      module-count =
          let r : ℕ = row_count (get_or found.0 1 []) in
          ap (λ (n : ℕ). n / 8) {x = get_or e' 1 0 - 2} {y = r * 8} (omega (arith, first-sizes.0, first-sizes.1)) ∙ mul-div_cancel r (omega arith)

      -- something else behind the lists
      pub read-broken : NamesLie s at ((get_or e' 1 0 - 2) / 8) None → (p : Project) (l : NameList) → RendersNamed s p l → ⊥
      unfolding RendersNamed
      read-broken n p l r =
          let o = same p l r in
          n l (ap (λ (k : ℕ). list_fits k l) (module-count ∙ ap (λ (cs : List (List (List ℕ))). row_count (get_or cs 1 [])) o.0) ∙ r.1) o.1

      abbrev pub result : Project
      result = project_of found.0

      result-lists : lists result ≡ found.0
      result-lists = lists_of found.0 found.1 found.2 (omega (arith, first-sizes.0))

      pub result-text : (l : NameList) → list_fits ((get_or e' 1 0 - 2) / 8) l ≡ true → drop at s ≡ name_section l → RendersNamed s result l
      unfolding has_text render RendersNamed
      result-text l f q = (
        ap (every even) result-lists ∙ found.2,
        ap (λ (k : ℕ). list_fits k l) (ap (λ (cs : List (List (List ℕ))). row_count (get_or cs 1 [])) result-lists ∙ sym module-count) ∙ f,
        ap₂ ◌++◌ (ap (sections names) result-lists) (sym q) ∙ sym found-text,
      )

      module _ (ld : length d ≡ 32768) (lk : k ≤ 32768) where
        values-size : length (flatten a.vss) ≤ 32768
        values-size = omega (arith, a.count)

        abbrev rest : List ℕ
        rest = drop (length (flatten a.vss)) d

        values-put : d' ≡ flatten a.vss ++ rest
        values-put = a.put ∙ sets-front d (flatten a.vss) (omega (arith, values-size))

        parts : Behind a.vss found.0 rest
        parts =
            subst (λ (v : List (List ℕ)). Behind v found.0 rest) (sym found.3)
            (behind found.0 found.1 found.2 (omega (arith, first-sizes.0)) rest)

        pub ends-climb : Climbs 2 (drop 1 e') 32768
        ends-climb = rw ends-stops (parts.climbs 32768 values-size)

        -- the columns that are cut are the project's
        cut-result : cut (drop 1 widths) (drop 1 e') 2 d' ≡ columns_of result
        cut-result =
            ap₂ (λ (x y : List ℕ). cut (drop 1 widths) (drop 1 x) 2 y) ends-stops values-put
            ∙ parts.columns
            ∙ ap (λ (cs : List (List (List ℕ))). flatten (drop 1 cs)) (sym result-lists)

        pub result-size : k ≡ 2 + length (values_of result)
        result-size =
            let n : k ≡ length (flatten a.vss) = omega (arith, a.count) in
            n ∙ parts.size ∙ ap (λ (cs : List (List (List ℕ))). 2 + length (flatten (flatten (drop 1 cs)))) (sym result-lists)

        pub accepted : (settings settings' bounds bounds' columns columns' : List ℕ) (from to : ℕ) → length s ≤ 65536
            → length settings ≡ 2 → length bounds ≡ 35 → length columns ≡ 32768
            → NamesLie s at ((get_or e' 1 0 - 2) / 8) (Some (from, to))
            → settings' ≡ sets settings 0 (get_or d' 0 0 ∷ get_or d' 1 0 ∷ [])
            → bounds' ≡ sets bounds 0 (0 ∷ tails 0 (cut (drop 1 widths) (drop 1 e') 2 d'))
            → columns' ≡ sets columns 0 (flatten (cut (drop 1 widths) (drop 1 e') 2 d'))
            → Reads s settings settings' bounds bounds' columns columns' (Ok (record { values = k - 2; from = from; to = to }))
        unfolding flatten
        accepted settings settings' bounds bounds' columns columns' from to h ls lb lc n es eb ec = (
          result,
          n.0,
          (h, result-text n.0 n.1 n.2),
          omega (arith, result-size),
          es
              ∙ over-whole settings (get_or d' 0 0 ∷ get_or d' 1 0 ∷ []) (sym ls)
              ∙ ap₂ (λ (x y : ℕ). x ∷ y ∷ []) (ap (λ (x : List ℕ). get_or x 0 0) values-put ∙ parts.runtime) (ap (λ (x : List ℕ). get_or x 1 0) values-put ∙ parts.dynamic),
          eb
              ∙ ap (λ (cs : List (List ℕ)). sets bounds 0 (0 ∷ tails 0 cs)) cut-result
              ∙ over-whole bounds (bounds_of result) (ap suc (tails-length 0 (columns_of result)) ∙ sym lb),
          ec ∙ ap (λ (cs : List (List ℕ)). sets columns 0 (flatten cs)) cut-result ∙ sets-front columns (values_of result) (omega (arith, result-size)),
          n.3,
        )

-- the reader's answers
module _ {s d d' e e' : List ℕ} {r : Option Cursor} (a : Steps s heads d d' e e' 0 start_of_text r) where
  pub refuse-off : r ≡ None → (x y z : List ℕ) → Reads s x x y y z z (Err Text)
  refuse-off h x y z = let b : Steps s heads d d' e e' 0 start_of_text None = rw h at a in (refl, (λ p l t. read_off s p l t.1 d d' e e' b.all), refl, refl, refl)

  module _ (c : Cursor) (h : r ≡ Some c) (le : length e ≡ 15) where
    turned : Steps s heads d d' e e' 0 start_of_text (Some c)
    turned = rw h at a

    lists-read : AllRead s heads 0 0 d e 0 c.at c.count d' e'
    lists-read = turned.all

    pub refuse-unsettled : (get_or e' 0 0 ≡ 2 → ⊥) → (x y z : List ℕ) → Reads s x x y y z z (Err Text)
    refuse-unsettled n x y z = (refl, (λ p l t. read-unsettled s d e c.at c.count d' e' lists-read le n p l t.1), refl, refl, refl)

    module _ (two : get_or e' 0 0 ≡ 2) where
      pub settled-end : 2 ≤ get_or e' 1 0
      settled-end = modules-end s d e c.at c.count d' e' lists-read le two

      module _ {q : Option (ℕ × ℕ)} (n : NamesLie s c.at ((get_or e' 1 0 - 2) / 8) q) where
        pub refuse-broken : q ≡ None → (x y z : List ℕ) → Reads s x x y y z z (Err Text)
        refuse-broken b x y z = (refl, (λ p l t. read-broken s d e c.at c.count d' e' lists-read le two (rw b at n) p l t.1), refl, refl, refl)

      module _ (ld : length d ≡ 32768) (ls : length s ≤ 65536) where
        count_fits : c.count ≤ 32768
        count_fits = let t = turned in omega (arith, t.room.1, t.room.0, ls)

        pub accept-climbs : Climbs 2 (drop 1 e') 32768 × (length e' ≡ 15)
        accept-climbs = (ends-climb s d e c.at c.count d' e' lists-read le two ld count_fits, ends-size s d e c.at c.count d' e' lists-read le)

        pub accept-count : 2 ≤ c.count
        accept-count = omega (arith, result-size s d e c.at c.count d' e' lists-read le two ld count_fits)

        pub accept : {q : Option (ℕ × ℕ)} (from to : ℕ) → NamesLie s c.at ((get_or e' 1 0 - 2) / 8) q → q ≡ Some (from, to)
            → (settings settings' bounds bounds' columns columns' : List ℕ) → length settings ≡ 2 → length bounds ≡ 35 → length columns ≡ 32768
            → settings' ≡ sets settings 0 (get_or d' 0 0 ∷ get_or d' 1 0 ∷ [])
            → bounds' ≡ sets bounds 0 (0 ∷ tails 0 (cut (drop 1 widths) (drop 1 e') 2 d'))
            → columns' ≡ sets columns 0 (flatten (cut (drop 1 widths) (drop 1 e') 2 d'))
            → Reads s settings settings' bounds bounds' columns columns' (Ok (record { values = c.count - 2; from = from; to = to }))
        accept {q} from to n g settings settings' bounds bounds' columns columns' hs hb hc =
            accepted s d e c.at c.count d' e' lists-read le two ld count_fits settings settings' bounds bounds' columns columns' from to ls hs hb hc (rw g at n)
