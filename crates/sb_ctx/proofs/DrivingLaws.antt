-- What a driver cites that gives a call its pages and its answers, and makes it again.
use Rattle.std.proofs.Common.{◌≡◌, ℕ, ◌+◌, ◌-◌, ◌<◌, ◌≤◌, ◌==◌, Bool, true, false, cond, List, [], length, All, Option, Some, None, option_map, refl, sym, ap, ◌∙◌, arith, eq-eqb, eqb-true, nat_cmp}
use Rattle.std.specs.FinMap.Entries.{put}
use Rattle.std.specs.Option.{option_eq}
use Rattle.std.proofs.lemmas.Bool.{cond-true}
use Rattle.std.proofs.lemmas.List.Elements.{All-nil, All-cons}
use Rattle.std.proofs.lemmas.Option.{same_Some}
use Rattle.sb_forms.specs.Db.{Db}
use Rattle.sb_forms.specs.Keys.{is_record_key}
use Rattle.sb_forms.specs.Pages.{Pages, ArePages, IsNext}
use Rattle.sb_ctx.specs.declared.held.Found.{Found}
use Rattle.sb_ctx.specs.View.{HeldPage, View, nothing, held_at, page_of, next_of, as_given, dropped, with_held, given_page, fresh_page, with_next, with_found, HoldsPart, FoundIn, keys_with, IsClean}
use Rattle.sb_ctx.specs.Held.{Entries, page_in}
use Rattle.sb_ctx.proofs.HeldLaws.{page_in-put, page_in-place, each-put, length-put_new, length_within}
use Rattle.sb_ctx.specs.Sound.{IsSound}
use Rattle.sb_ctx.proofs.ViewLaws.{dropped-dropped, not_held}

-- ---- a Ctx holds a part of the pages
pub HoldsPart-nothing : (P : Pages) → ArePages P → HoldsPart nothing P
HoldsPart-nothing P are = record { are_pages = are; fresh = λ n h is fresh. cc; pages = λ n h is. cc; nexts = All-nil (λ e. IsNext P e.0 e.1) }

held_part : (c : View) (P : Pages) (n : ℕ) (h : HeldPage) → P n ≡ h.given → (h.fresh ≡ true → n < 65536) → HoldsPart c P → HoldsPart (with_held n h c) P
held_part c P n h same below part = record {
  are_pages = part.are_pages;
  fresh = λ m g is. (by m g (n == m) refl (sym (page_in-put c.held n m h) ∙ is)).1;
  pages = λ m g is. (by m g (n == m) refl (sym (page_in-put c.held n m h) ∙ is)).0;
  nexts = part.nexts;
}
  where
    by : (m : ℕ) (g : HeldPage) (b : Bool) → n == m ≡ b → cond b (Some h) (page_in c.held m) ≡ Some g → (P m ≡ g.given) × (g.fresh ≡ true → m < 65536)
    by m g true here is =
        let at : n ≡ m = eqb-true n m here in
        let it : h ≡ g = same_Some h g is in
        (ap P (sym at) ∙ same ∙ ap (λ (x : HeldPage). x.given) it, λ fresh. omega (arith, at, below (ap (λ (x : HeldPage). x.fresh) it ∙ fresh)))
    by m g false there is = (part.pages m g is, part.fresh m g is)

pub HoldsPart-given : (c : View) (P : Pages) (n : ℕ) → HoldsPart c P → HoldsPart (with_held n (given_page (P n)) c) P
HoldsPart-given c P n = held_part c P n (given_page (P n)) refl (λ fresh. cc)

pub HoldsPart-fresh : (c : View) (P : Pages) (n : ℕ) → P n ≡ [] → n < 65536 → HoldsPart c P → HoldsPart (with_held n fresh_page c) P
HoldsPart-fresh c P n unused below = held_part c P n fresh_page unused (λ fresh. below)

pub HoldsPart-with_next : (c : View) (P : Pages) (low next : Option ℕ) → IsNext P low next → HoldsPart c P → HoldsPart (with_next low next c) P
HoldsPart-with_next c P low next is part = record {
  are_pages = part.are_pages;
  fresh = part.fresh;
  pages = part.pages;
  nexts = All-cons (λ e. IsNext P e.0 e.1) (low, next) c.nexts is part.nexts;
}

pub HoldsPart-with_found : (c : View) (P : Pages) (f : Found) → HoldsPart c P → HoldsPart (with_found f c) P
HoldsPart-with_found c P f part = record { are_pages = part.are_pages; fresh = part.fresh; pages = part.pages; nexts = part.nexts }

-- ---- and its finds are answered over a database
pub FoundIn-nothing : (db : Db) → FoundIn nothing db
FoundIn-nothing db = All-nil (λ f. f.keys ≡ keys_with db f.relation f.columns f.values)

pub FoundIn-with_found : (c : View) (db : Db) (f : Found) → f.keys ≡ keys_with db f.relation f.columns f.values → FoundIn c db → FoundIn (with_found f c) db
FoundIn-with_found c db f is found = All-cons (λ f. f.keys ≡ keys_with db f.relation f.columns f.values) f c.found is found

-- ---- nothing is made of it yet
abbrev AreKeys : Found → Type 0
AreKeys f = All (λ k. is_record_key k ≡ true) f.keys

pub IsClean-nothing : IsClean nothing
IsClean-nothing = record { unchanged = refl; keys = All-nil AreKeys }

held_clean : (c : View) (n : ℕ) (h : HeldPage) → as_given h ≡ h → IsClean c → IsClean (with_held n h c)
held_clean c n h same clean = record {
  unchanged = ap (λ (held : Entries). record (with_held n h c) { held = held }) (each-put as_given n h c.held ∙ (λ i. put nat_cmp n (same i) ((clean.unchanged i).held)));
  keys = clean.keys;
}

pub IsClean-given : (c : View) (n : ℕ) (bytes : List ℕ) → IsClean c → IsClean (with_held n (given_page bytes) c)
IsClean-given c n bytes = held_clean c n (given_page bytes) refl

pub IsClean-fresh : (c : View) (n : ℕ) → IsClean c → IsClean (with_held n fresh_page c)
IsClean-fresh c n = held_clean c n fresh_page refl

pub IsClean-with_next : (c : View) (low next : Option ℕ) → IsClean c → IsClean (with_next low next c)
IsClean-with_next c low next clean = record { unchanged = ap (λ (v : View). record (with_next low next c) { held = v.held }) clean.unchanged; keys = clean.keys }

pub IsClean-with_found : (c : View) (f : Found) → All (λ k. is_record_key k ≡ true) f.keys → IsClean c → IsClean (with_found f c)
IsClean-with_found c f keys clean = record { unchanged = ap (λ (v : View). record (with_found f c) { held = v.held }) clean.unchanged; keys = All-cons AreKeys f c.found keys clean.keys }

pub IsClean-dropped : (c : View) → All (λ f. All (λ k. is_record_key k ≡ true) f.keys) c.found → IsClean (dropped c)
IsClean-dropped c keys = record { unchanged = dropped-dropped c; keys = keys }

-- ---- what was given isn't asked for again
pub page_of-with_held : (c : View) (n : ℕ) (h : HeldPage) → page_of (with_held n h c) n ≡ Some h.now
page_of-with_held c n h = ap (option_map (λ (g : HeldPage). g.now)) (page_in-put c.held n n h ∙ cond-true (n == n) (Some h) (page_in c.held n) (eq-eqb n n refl))

pub next_of-with_next : (c : View) (low next : Option ℕ) → next_of (with_next low next c) low ≡ Some next
next_of-with_next c low next = ap (option_map (λ (e : Option ℕ × Option ℕ). e.1)) (cond-true (option_eq (λ a b. a == b) low low) (Some (low, next)) _ (same low))
  where
    same : (o : Option ℕ) → option_eq (λ a b. a == b) o o ≡ true
    same None = refl
    same (Some n) = eq-eqb n n refl

-- ---- a measure: the pages below a bound that aren't held
pub length-with_held : (c : View) (n : ℕ) (h : HeldPage) → IsSound c → page_of c n ≡ None → length (with_held n h c).held ≡ length c.held + 1
length-with_held c n h sound none = length-put_new c.held n h sound.rises (not_held c n none)

-- the numbers of the held pages are below the bound
abbrev pub AreBelow : ℕ → View → Type 0
AreBelow most c = (n : ℕ) (h : HeldPage) → held_at c n ≡ Some h → n < most

pub AreBelow-nothing : (most : ℕ) → AreBelow most nothing
AreBelow-nothing most n h is = cc

pub AreBelow-with_held : (most : ℕ) (c : View) (n : ℕ) (h : HeldPage) → n < most → AreBelow most c → AreBelow most (with_held n h c)
AreBelow-with_held most c n h below all m g is = by (n == m) refl (sym (page_in-put c.held n m h) ∙ is)
  where
    by : (b : Bool) → n == m ≡ b → cond b (Some h) (page_in c.held m) ≡ Some g → m < most
    by true here there = omega (arith, eqb-true n m here)
    by false other there = all m g there

pub length-below : (most : ℕ) (c : View) → IsSound c → AreBelow most c → length c.held ≤ most
length-below most c sound all = omega (arith, length_within c.held 0 most sound.rises (λ i e is. (omega arith, all e.0 e.1 (page_in-place c.held i e sound.rises is))) (omega arith))

abbrev pub unheld : ℕ → View → ℕ
unheld most c = most - length c.held

-- falls with each page that wasn't held
pub unheld-falls : (most : ℕ) (c : View) (n : ℕ) (h : HeldPage) → IsSound c → IsSound (with_held n h c) → AreBelow most c → n < most → page_of c n ≡ None → unheld most (with_held n h c) < unheld most c
unheld-falls most c n h sound after all below none =
    omega (arith, length-with_held c n h sound none, length-below most (with_held n h c) after (AreBelow-with_held most c n h below all))
