-- Where no page is left beside a new owner, while the content of a rule is built.
use Rattle.std.proofs.Common.{◌≡◌, ◌⊎◌, inl, inr, ℕ, ◌*◌, ◌<◌, ◌≤◌, Bool, true, [], ◌∷◌, ◌++◌, length, map, refl, ap, ◌∙◌, arith}
use Rattle.std.proofs.lemmas.List.{length-map}
use Rattle.sb_node.specs.Entries.{Entry}
use Rattle.sb_rule.specs.declared.rule.Rule.{Rule}
use Rattle.sb_relation.specs.Db.{Name, Key, Row, Rows, Db, rows_at}
use Rattle.sb_fold.specs.Extensions.{Extensions}
use Rattle.sb_forms.specs.Pages.{page_count}
use Rattle.sb_ctx.specs.View.{fresh_pages, holds_fresh, nothing}
use Rattle.sb_registry.specs.Boxes.{Meanings}
use Rattle.sb_drive.specs.declared.space.SpaceFault.{SpaceFault}
use Rattle.sb_drive.specs.declared.space.SpaceFault.TheVariants.{DataFull, TempFull}
use Rattle.sb_drive.specs.declared.turns.Ask.TheVariants.{Fresh}
use Rattle.sb_drive.specs.Slots.{Slots, owned}
use Rattle.sb_drive.specs.Spaces.{IsFull, LeadsOn, Wanted}
use Rattle.sb_standing.specs.Lacking.{IsShort, WhereShort}
use Rattle.sb_standing.specs.Tables.{Tables, db_of, entry_of}
use Rattle.sb_standing.specs.TableLaws.{Comes}
use Rattle.sb_standing.proofs.LackingLemmas.{used_by, where_short}
use Rattle.sb_tables.specs.Opened.{IsDurable}
use Rattle.sb_tables.specs.Working.{extensions_of}
use Rattle.sb_tables.proofs.Catalogue.{catalogue_small}
use Rattle.sb_tables.proofs.LicenceLemmas.{none_counted}
use Rattle.sb_building.specs.Instances.{Site}
use Rattle.sb_building.specs.Lacking.{IsShortBuilding, IsWithinBuild, bound_over}

-- ---- the content over all rows
-- rows have a last one, or there are none
last_of : (rows : Rows) → (rows ≡ []) ⊎ ((front : Rows) × (row : Key × Row) × (rows ≡ front ++ row ∷ []))
last_of [] = inl refl
last_of (x ∷ rows) = of_rest (last_of rows)
  where
    of_rest : (rows ≡ []) ⊎ ((front : Rows) × (row : Key × Row) × (rows ≡ front ++ row ∷ [])) → (x ∷ rows ≡ []) ⊎ ((front : Rows) × (row : Key × Row) × (x ∷ rows ≡ front ++ row ∷ []))
    of_rest (inl none) = inr ([], x, ap (λ (l : Rows). x ∷ l) none)
    of_rest (inr some) = inr (x ∷ some.0, some.1, ap (λ (l : Rows). x ∷ l) some.2)

-- its pages are no more than those while the last row is built, or than those over no rows
pub within-all : (ext : Extensions) (db : Db) (name : Name) (rule : Rule) (rows : Rows) → rows_at db name ≡ rows → IsWithinBuild ext db name rule (bound_over ext db name rule rows)
within-all ext db name rule rows are = of_last (last_of rows)
  where
    of_last : (rows ≡ []) ⊎ ((front : Rows) × (row : Key × Row) × (rows ≡ front ++ row ∷ [])) → IsWithinBuild ext db name rule (bound_over ext db name rule rows)
    of_last (inl none) = inl (omega (arith, ap (bound_over ext db name rule) none))
    of_last (inr some) = inr (record {
      built = some.0;
      row = some.1;
      next = record { rest = []; split = are ∙ some.2 };
      within = omega (arith, ap (bound_over ext db name rule) some.2);
    })

-- ---- on the way to it
module _ {S : Type 0} (Has : Wanted → Slots → S → Type 0) (Leads : ℕ → S → S → Type 0) (m : Meanings) (root : ℕ) (x : Site) (name : Name) (rule : Rule) where
  -- no page is left at a moment on the way here
  abbrev IsNoneLeft : S → ℕ → Type 0
  IsNoneLeft now total = IsShortBuilding Has Leads (extensions_of m) x name rule now total

  first_used : (old new : S) → Has x.want x.slots old → Tables m IsDurable root x.slots x.kept → LeadsOn Leads old new
      → (total : ℕ) → ((n : ℕ) → n < total → (x.slots n).0 ≡ 0 → holds_fresh nothing n ≡ true) → IsNoneLeft new total
  first_used old new has tables leads total used = record {
    space = old;
    leads = leads;
    slots = x.slots;
    has = has;
    owner = 0;
    pages = 0;
    within = inl (omega arith);
    short = record {
      comes = record { is = inl refl; none = λ n. refl; others = λ o other two. refl };
      ctx = nothing;
      used = used;
      entry = 0;
      content = 0;
      all = omega arith;
      catalogue = omega (arith, catalogue_small m IsDurable root x.slots x.kept tables);
      own = omega (arith, none_counted (owned x.slots 0) (λ n. refl));
    };
  }

  -- for a root, before any is given
  pub short_first : (durable : Bool) (all : ℕ) (old new : S) → Has x.want x.slots old → Tables m IsDurable root x.slots x.kept → LeadsOn Leads old new
      → (e : SpaceFault) → IsFull durable all x.slots nothing Fresh e → WhereShort e (IsNoneLeft new)
  short_first durable all old new has tables leads (DataFull used of) full = first_used old new has tables leads of (used_by x.slots nothing all used of full.1)
  short_first durable all old new has tables leads (TempFull used of) full = first_used old new has tables leads of (used_by x.slots nothing all used of full.1)
  short_first durable all old new has tables leads e full = tt

  module _ (owner pages : ℕ) (mid new : S) (t : Slots) (has : Has x.want t mid) (comes : Comes x.slots t owner) (leads : LeadsOn Leads mid new) (within : IsWithinBuild (extensions_of m) (db_of x.kept) name rule pages) (e : SpaceFault) where
    -- for the content
    pub short_own : Tables m IsDurable root t x.kept → WhereShort e (IsShort t owner pages) → WhereShort e (IsNoneLeft new)
    short_own tables short =
        where_short e (IsShort t owner pages) (IsNoneLeft new)
        (λ total lack. record {
          space = mid;
          leads = leads;
          slots = t;
          has = has;
          owner = owner;
          pages = pages;
          within = within;
          short = record {
            comes = comes;
            ctx = lack.ctx;
            used = lack.used;
            entry = 0;
            content = length (fresh_pages lack.ctx);
            all = omega arith;
            catalogue = omega (arith, catalogue_small m IsDurable root t x.kept tables);
            own = omega (arith, lack.within);
          };
        }) short

    -- for the entry in the catalogue
    pub short_entry : page_count (owned t owner) ≤ pages → WhereShort e (IsShort t 2 (2 * length (map entry_of x.kept))) → WhereShort e (IsNoneLeft new)
    short_entry own short =
        where_short e (IsShort t 2 (2 * length (map entry_of x.kept))) (IsNoneLeft new)
        (λ total lack. record {
          space = mid;
          leads = leads;
          slots = t;
          has = has;
          owner = owner;
          pages = pages;
          within = within;
          short = record {
            comes = comes;
            ctx = lack.ctx;
            used = lack.used;
            entry = length (fresh_pages lack.ctx);
            content = 0;
            all = omega arith;
            catalogue = omega (arith, lack.within, length-map {B = Entry} x.kept entry_of);
            own = omega (arith, own);
          };
        }) short
