-- What the reader's promise says of a text: 7 exactly for no project's text, and else the one project and list that have it, lent as a table.
-- Assumes nothing.
use Rattle.tables.specs.declared.Refusal.{Refusal}
use Rattle.tables.specs.declared.Refusal.TheVariants.{Text}
use Rattle.std.specs.Prelude.{◌≡◌, ℕ, ◌-◌, ◌↔◌, List, length, get_or, take, drop, Option, None, Result, Ok, Err}
use mathlib.Core.Path.{refl, sym, ap, ap₂, ◌∙◌}
use lib.Seq.{take-append_seam}
use Rattle.tables.specs.Project.{Project}
use Rattle.tables.specs.Refusal.{refusal}
use Rattle.tables.specs.Answers.{after}
use Rattle.tables.specs.Readings.{modules}
use Rattle.table.specs.Table.{current, tested_too, lent, lent_as}
use Rattle.table.proofs.Laws.{table-fit}
use Rattle.names.specs.Names.{names_sized, names_in}
use Rattle.named_form.specs.NamedForm.{NameList, RendersNamed, lent_names}
use Rattle.named_form.proofs.Injective.{named-injective}
use Rattle.name_list.specs.Lying.{LiesIn}
use Rattle.listing.specs.Reading.{IsText, settings_of, values_of, bounds_of, Reads}
use Rattle.listing.specs.declared.Reading.{Reading}
use Rattle.listing.proofs.Parts.{table_of, bounds-fit}
use Rattle.listing.proofs.Numbers.{refusal_same}

-- a project and list that have a text, lent as a table
pub text-lent : (s : List ℕ) (p : Project) (l : NameList) → RendersNamed s p l
    → lent_as (bounds_of p) (values_of p) (lent_names l) p ≡ record { refused = refusal p; project = current p }
unfolding RendersNamed
text-lent s p l t =
    ap (λ (x : Option Refusal). record { refused = x; project = current p })
    (ap (λ (x : Option Refusal). tested_too x (names_sized (lent_names l)) (names_in (modules p) (lent_names l))) (sym (table-fit (bounds_of p) (values_of p) p (bounds-fit p)))
    ∙ refusal_same p l t.1)

module _ (s settings settings' bounds bounds' columns columns' : List ℕ) where
  -- 7 exactly if the text is no project's
  pub seven : (r : Result Reading Refusal) → Reads s settings settings' bounds bounds' columns columns' r → (r ≡ Err Text) ↔ ((p : Project) (l : NameList) → IsText s p l → ⊥)
  seven (Err n) a = (λ e. a.1, λ h. ap Err a.0)
  seven (Ok r) a = (λ e. absurd (cc e), λ h. absurd (h a.0 a.1 a.2))

  -- the text of p with the list l is read as p, and its names are those of l
  module _ (p : Project) (l : NameList) (t : IsText s p l) where
    pub reads_as : (r : Result Reading Refusal) → Reads s settings settings' bounds bounds' columns columns' r
        → (x : Reading) × (r ≡ Ok x) × (x.values ≡ length (values_of p)) × (settings' ≡ settings_of p) × (bounds' ≡ bounds_of p) × (columns' ≡ after None columns (values_of p)) × LiesIn s l x.from x.to
    reads_as (Err n) a = absurd (a.1 p l t)
    reads_as (Ok x) a =
        let e = named-injective s a.0 p a.1 l a.2.1 t.1 in (
          x,
          refl,
          a.3 ∙ ap (λ (q : Project). length (values_of q)) e.0,
          a.4 ∙ ap settings_of e.0,
          a.5 ∙ ap bounds_of e.0,
          a.6 ∙ ap (λ (q : Project). after None columns (values_of q)) e.0,
          (a.7.0, a.7.1, a.7.2 ∙ ap lent_names e.1),
        )

    -- and what was read is lent as p is: an operation on it is one on p, read through `newer`, with the names of l
    pub reads-lent : (x : Reading) → Reads s settings settings' bounds bounds' columns columns' (Ok x)
        → (take (x.to - x.from) (drop x.from s) ≡ lent_names l)
        × (lent (get_or settings' 0 0) (get_or settings' 1 0) bounds' (take x.values columns') (take (x.to - x.from) (drop x.from s)) ≡ record { refused = refusal p; project = current p })
    reads-lent x a =
        let e = named-injective s a.0 p a.1 l a.2.1 t.1 in
        let m : take (x.to - x.from) (drop x.from s) ≡ lent_names l = a.7.2 ∙ ap lent_names e.1 in (
          m,
          ap₂ (λ (y z : List ℕ). lent (get_or y 0 0) (get_or y 1 0) z (take x.values columns') (take (x.to - x.from) (drop x.from s))) (a.4 ∙ ap settings_of e.0) (a.5 ∙ ap bounds_of e.0)
              ∙ ap₂ (lent p.runtime p.dynamic (bounds_of p))
              (ap₂ take (a.3 ∙ ap (λ (q : Project). length (values_of q)) e.0) (a.6 ∙ ap (λ (q : Project). after None columns (values_of q)) e.0) ∙ take-append_seam (values_of p) (drop (length (values_of p)) columns)) m
              ∙ ap (lent_as (bounds_of p) (values_of p) (lent_names l)) (table_of p)
              ∙ text-lent s p l t.1,
        )
