-- The pages of a new store keep the empty database, whichever boxes are live.
use Rattle.std.proofs.Common.{◌≡◌, ⊎_elim, ℕ, ◌<◌, ◌≤◌, ◌==◌, Bool, cond, true, false, Option, Some, None, is_some, List, [], refl, ap, ◌∙◌, arith}
use Rattle.std.proofs.lemmas.Bool.{cases_lt, false≢true}
use Rattle.std.proofs.lemmas.List.Elements.{All-nil}
use Rattle.sb_disk.specs.Disk.{Story}
use Rattle.sb_images.specs.Layout.{IsGeometry}
use Rattle.sb_images.specs.Store.{IsMounted}
use Rattle.sb_log.specs.declared.geometry.Geometry.{Geometry}
use Rattle.sb_recover.specs.FirstPages.{first_page, empty_leaf}
use Rattle.sb_registry.specs.Boxes.{Meanings}
use Rattle.sb_drive.specs.Slots.{Slots, bytes_for, owned}
use Rattle.sb_space.specs.Opening.{IsNewStore}
use Rattle.sb_space.specs.Table.{slots_in, table_len}
use Rattle.sb_space.proofs.Looking.{bytes_for-other, not_eq}
use Rattle.sb_space.proofs.NewStores.{new_stores}
use Rattle.sb_session.specs.Transactions.{IsCommitted}
use Rattle.sb_opening.specs.Laws.{NewAreEmpty}
use Rattle.sb_opening.specs.Naming.{all_live}
use Rattle.sb_opening.specs.Opening.{IsStored}

-- ---- only the table and the catalogue have pages
abbrev seen : Bool → Bool → List ℕ → List ℕ
seen none own bytes = cond none [] (cond own bytes [])

no_bytes : (none own : Bool) → seen none own [] ≡ []
no_bytes true own = refl
no_bytes false true = refl
no_bytes false false = refl

module _ (pages : ℕ) (new : IsNewStore pages (first_page pages)) where
  abbrev pub slots : Slots
  slots = slots_in pages (first_page pages)

  empty_slot : (o n k : ℕ) → slots n ≡ (k, []) → owned slots o n ≡ []
  empty_slot o n k is = ap (bytes_for o) is ∙ no_bytes (o == 0) (k == o)

  pub none_else : (o : ℕ) → 2 < o → (n : ℕ) → owned slots o n ≡ []
  none_else o above n = ⊎_elim
      (λ (low : n < table_len pages). empty_slot o n 1 (new.own n low))
      (λ (from : table_len pages ≤ n). ⊎_elim
      (λ (high : table_len pages < n). empty_slot o n 0 (new.rest n high))
      (λ (last : n ≤ table_len pages).
      let at : n ≡ table_len pages = omega (arith, from, last) in
      ap (λ (k : ℕ). owned slots o k) at ∙ ap (bytes_for o) new.root ∙ bytes_for-other o (2, empty_leaf) (not_eq 2 o (λ is. omega (arith, above, is))))
      (cases_lt (table_len pages) n))
      (cases_lt n (table_len pages))

-- ---- the empty database
abbrev pub committed-new : (m : Meanings) (g : Geometry) → IsGeometry g → IsCommitted m (table_len g.pages) g.pages (first_page g.pages) []
committed-new m g sizes =
    let new = new_stores g sizes in
    record {
      formed = record { whole = new.whole; table = new.table };
      kept = [];
      is = refl;
      keeps = record {
        tables = record { rising = tt; catalogue = new.empty; each = All-nil _ };
        rules = All-nil _;
        joinless = All-nil _;
        own = record { apart = tt; each = All-nil _; left = All-nil _; known = λ o above out n. none_else g.pages new o above n };
      };
      settled = record {
        lasting = All-nil _;
        mirrored = λ name. All-nil _;
        paired = λ name. All-nil _;
        apart = λ name label. omega arith;
        complete = λ name. All-nil _;
        rules = λ name. All-nil _;
        fit = All-nil _;
      };
    }

-- a store has sizes that it may have
sizes_told : (told : Option Story) (g : Geometry) (want : ℕ → List ℕ) → is_some told ≡ true → IsMounted want told g → IsGeometry g
sizes_told None g want tells mounted = absurd (false≢true tells)
sizes_told (Some s) g want tells mounted = mounted.1.store.sizes

pub stored-new : (m : Meanings) (told : Option Story) (g : Geometry) → is_some told ≡ true → IsMounted (first_page g.pages) told g → IsStored m told g (first_page g.pages) []
stored-new m told g tells mounted = record { tells = tells; mounted = mounted; committed = committed-new (all_live m) g (sizes_told told g (first_page g.pages) tells mounted) }

pub kept-new : (m : Meanings) (told : Option Story) (g : Geometry) (tells : is_some told ≡ true) (mounted : IsMounted (first_page g.pages) told g)
    → (stored-new m told g tells mounted).committed.kept ≡ []
unfolding stored-new
kept-new m told g tells mounted = refl

pub new-are-empty : NewAreEmpty
new-are-empty = stored-new
