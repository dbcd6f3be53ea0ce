-- What a boxed call sees: the pages of its instance that it was given, and what it has made of them.
use Rattle.std.specs.Prelude.{◌≡◌, ℕ, ◌+◌, ◌-◌, ◌^◌, ◌<◌, min, ◌==◌, Bool, true, false, cond, not, ◌&&◌, List, [], ◌∷◌, length, map, filter, All, Option, Some, None, is_none, option_map}
use Rattle.std.specs.List.{find as first}
use Rattle.std.specs.Ordering.{nat_cmp}
use Rattle.std.specs.Option.{option_eq}
use Rattle.std.specs.Str.{bytes_eq}
use Rattle.std.specs.FinMap.Entries.{put}
use Rattle.std.specs.Cmp.Lexicographic.{pointwise}
use Rattle.sb_value.specs.declared.value.Value.{Value}
use Rattle.sb_ctx.specs.declared.held.Found.{Found}
use Rattle.sb_value.specs.Equal.{tuple_eq}
use Rattle.sb_forms.specs.Db.{Name, Key, Db, rows_at, schema_at}
use Rattle.sb_forms.specs.Fits.{is_empty, places_in, first_unnamed}
use Rattle.sb_forms.specs.Keys.{is_record_key}
use Rattle.sb_forms.specs.Rules.{has_values}
use Rattle.sb_forms.specs.Pages.{Pages, ArePages, IsNext}

-- A page that is held: its bytes as they were given, its bytes now, and whether it was given as a fresh one. A page without bytes isn't the instance's: it never was, or isn't taken yet, or was freed.
pub record HeldPage : Type 0 where
  pub given : List ℕ
  pub now : List ℕ
  pub fresh : Bool

-- The pages by their numbers, the next page behind some of them, the answers to finds, and how often something was given.
pub record View : Type 0 where
  pub held : List (ℕ × HeldPage)
  pub nexts : List (Option ℕ × Option ℕ)
  pub found : List Found
  pub asks : ℕ

-- nothing is held
abbrev pub nothing : View
nothing = record { held = []; nexts = []; found = []; asks = 0 }

-- ---- what is held
abbrev pub held_at : View → ℕ → Option HeldPage
held_at c n = option_map (λ e. e.1) (first (λ e. e.0 == n) c.held)

-- the bytes of pages by their numbers, where they are held
abbrev pub HeldPages : Type 0
HeldPages = ℕ → Option (List ℕ)

-- the bytes of a page as it was given, where it is held
abbrev pub given_at : View → HeldPages
given_at c n = option_map (λ h. h.given) (held_at c n)

-- the bytes of a page now, where it is held
abbrev pub page_of : View → ℕ → Option (List ℕ)
page_of c n = option_map (λ h. h.now) (held_at c n)

-- whether a page is held as a fresh one, taken or not
abbrev pub holds_fresh : View → ℕ → Bool
holds_fresh c n = elim (held_at c n) [ None ↦ false | Some h ↦ h.fresh ]

-- how many bytes it has
abbrev pub room_of : View → ℕ → ℕ
room_of c n = elim (page_of c n) [ None ↦ 0 | Some bytes ↦ length bytes ]

-- the next page behind a page, or the first one, where it is known
abbrev pub next_of : View → Option ℕ → Option (Option ℕ)
next_of c low = option_map (λ e. e.1) (first (λ e. option_eq (λ a b. a == b) e.0 low) c.nexts)

abbrev pub is_answer_to : Name → List Name → List Value → Found → Bool
is_answer_to relation columns values f = bytes_eq f.relation relation && pointwise bytes_eq f.columns columns && tuple_eq f.values values

-- the answer to a find, where it is known
abbrev pub found_of : View → Name → List Name → List Value → Option (List Key)
found_of c relation columns values = option_map (λ f. f.keys) (first (is_answer_to relation columns values) c.found)

-- ---- what is made of it
-- the page of this number has these bytes now
abbrev pub bytes_put : ℕ → List ℕ → List (ℕ × HeldPage) → List (ℕ × HeldPage)
bytes_put n bytes [] = []
bytes_put n bytes (e ∷ held) = cond (e.0 == n) ((e.0, record e.1 { now = bytes }) ∷ held) (e ∷ bytes_put n bytes held)

abbrev pub with_page : ℕ → List ℕ → View → View
with_page n bytes c = record c { held = bytes_put n bytes c.held }

-- the first fresh page that isn't taken
abbrev pub free_page : View → Option ℕ
free_page c = option_map (λ e. e.0) (first (λ e. e.1.fresh && is_empty e.1.now) c.held)

abbrev pub as_given : HeldPage → HeldPage
as_given h = record h { now = h.given }

-- all edits are dropped: taken pages are free again, freed ones are back
abbrev pub dropped : View → View
dropped c = record c { held = map (λ e. (e.0, as_given e.1)) c.held }

-- a page has other bytes than it was given with, or was given with bytes and has none now
abbrev pub is_edited : HeldPage → Bool
is_edited h = not (is_empty h.now) && not (bytes_eq h.now h.given)

abbrev pub is_freed : HeldPage → Bool
is_freed h = is_empty h.now && not (is_empty h.given)

-- the pages with other bytes than they were given with, those that were given as fresh ones and whether they are taken, and those that were freed
abbrev pub edited_pages : View → List ℕ
edited_pages c = map (λ e. e.0) (filter (λ e. is_edited e.1) c.held)

abbrev pub fresh_pages : View → List (ℕ × Bool)
fresh_pages c = map (λ e. (e.0, not (is_empty e.1.now))) (filter (λ e. e.1.fresh) c.held)

abbrev pub freed_pages : View → List ℕ
freed_pages c = map (λ e. e.0) (filter (λ e. is_freed e.1) c.held)

-- how many pages are written and change their owner: the edited ones, and the taken and the freed ones once more
abbrev pub edits_of : View → ℕ
edits_of c = length (edited_pages c) + length (filter (λ e. e.1) (fresh_pages c)) + length (freed_pages c)

-- ---- what is given
-- one gift more, up to the greatest u32
abbrev pub counted : View → View
counted c = record c { asks = min (c.asks + 1) (2 ^ 32 - 1) }

abbrev pub with_held : ℕ → HeldPage → View → View
with_held n h c = counted (record c { held = put nat_cmp n h c.held })

abbrev pub given_page : List ℕ → HeldPage
given_page bytes = record { given = bytes; now = bytes; fresh = false }

abbrev pub fresh_page : HeldPage
fresh_page = record { given = []; now = []; fresh = true }

abbrev pub with_next : Option ℕ → Option ℕ → View → View
with_next low next c = counted (record c { nexts = (low, next) ∷ c.nexts })

abbrev pub with_found : Found → View → View
with_found f c = counted (record c { found = f ∷ c.found })

-- ---- what is held of some pages and of a database
-- pages that are held are some of these, as they are
abbrev pub AreSomeOf : HeldPages → Pages → Type 0
AreSomeOf held P = (n : ℕ) (bytes : List ℕ) → held n ≡ Some bytes → P n ≡ bytes

-- It holds a part of an instance's pages, as they are, and fresh pages that may become the instance's.
pub record HoldsPart (c : View) (P : Pages) : Type 0 where
  pub are_pages : ArePages P
  pub fresh : (n : ℕ) (h : HeldPage) → held_at c n ≡ Some h → h.fresh ≡ true → n < 65536
  pub pages : (n : ℕ) (h : HeldPage) → held_at c n ≡ Some h → P n ≡ h.given
  pub nexts : All (λ e. IsNext P e.0 e.1) c.nexts

-- the pages once what was made of them is stored
abbrev pub stored : View → Pages → Pages
stored c P n = elim (held_at c n) [ None ↦ P n | Some h ↦ h.now ]

-- the rising record keys of those rows that have these values; none where the relation or a column isn't there
abbrev pub keys_with : Db → Name → List Name → List Value → List Key
keys_with db relation columns values =
    cond (is_none (first_unnamed (places_in (schema_at db relation) columns)))
    (map (λ row. row.0) (filter (λ row. has_values (schema_at db relation) columns values row.1) (rows_at db relation))) []

-- each find is answered over this database
abbrev pub FoundIn : View → Db → Type 0
FoundIn c db = All (λ f. f.keys ≡ keys_with db f.relation f.columns f.values) c.found

-- a Ctx as a call wants it: nothing is made of it yet, and what was found are record keys
pub record IsClean (c : View) : Type 0 where
  pub unchanged : dropped c ≡ c
  pub keys : All (λ f. All (λ k. is_record_key k ≡ true) f.keys) c.found
