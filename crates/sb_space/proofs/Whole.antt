-- What all that is stored makes of the owner's pages.
use Rattle.std.proofs.Common.{◌≡◌, ℕ, suc, ◌+◌, ◌==◌, Bool, true, false, not, ◌||◌, Option, Some, List, [], ◌∷◌, length, filter, refl, sym, ap, ◌∙◌}
use Rattle.std.proofs.lemmas.Bool.{false≢true, true≢false, eqb-true}
use Rattle.std.proofs.lemmas.List.{length-map}
use Rattle.sb_relation.specs.Fits.{is_empty}
use Rattle.sb_ctx.specs.View.{HeldPage, View, edited_pages, fresh_pages, freed_pages, edits_of, HoldsPart, stored}
use Rattle.sb_ctx.specs.Sound.{IsSound}
use Rattle.sb_ctx.proofs.ListedLaws.{IsListed, edited-page, fresh-page, stored-freed, stored-not_listed}
use Rattle.sb_ctx.proofs.ViewLaws.{stored_by}
use Rattle.sb_drive.specs.Slots.{Slots, owned}
use Rattle.sb_drive.specs.Stores.{bytes_in}
use Rattle.sb_drive.proofs.StoresLemmas.{listed-any, any-listed, bytes_in-stored}
use Rattle.sb_space.specs.Stored.{taken_in, is_among, Touches, AreSet}

-- a page among those that were taken is listed as taken
taken-listed : (xs : List (ℕ × Bool)) (m : ℕ) → is_among (taken_in xs) m ≡ true → IsListed xs (m, true)
taken-listed [] m is = absurd (false≢true is)
taken-listed ((k, true) ∷ xs) m is = by (taken-listed xs m) (k == m) refl is
  where
    by : (is_among (taken_in xs) m ≡ true → IsListed xs (m, true)) → (b : Bool) → (k == m) ≡ b → (b || is_among (taken_in xs) m) ≡ true → IsListed ((k, true) ∷ xs) (m, true)
    by below true same is = (0, ap (λ (x : ℕ). Some (x, true)) (eqb-true k m same))
    by below false other is = let rest = below is in (suc rest.0, rest.1)
taken-listed ((k, false) ∷ xs) m is = let rest = taken-listed xs m is in (suc rest.0, rest.1)

some_empty : (bytes : List ℕ) → bytes ≡ [] → not (is_empty bytes) ≡ true → ⊥
some_empty bytes none some = true≢false (sym some ∙ ap (λ (b : List ℕ). not (is_empty b)) none)

module _ (owner : ℕ) (c : View) (s t u v : Slots) (sound : IsSound c) (part : HoldsPart c (owned s owner))
    (taken : Touches owner (taken_in (fresh_pages c)) s t) (edited : AreSet owner (edited_pages c) (bytes_in c) t u) (freed : AreSet owner (freed_pages c) (λ m. []) u v) where
  P : ℕ → List ℕ
  P = owned s owner

  -- a page that is neither edited nor freed wasn't taken
  not_taken : (m : ℕ) → stored c (owned s owner) m ≡ owned s owner m → is_among (taken_in (fresh_pages c)) m ≡ false
  not_taken m still = by (is_among (taken_in (fresh_pages c)) m) refl
    where
      by : (b : Bool) → is_among (taken_in (fresh_pages c)) m ≡ b → b ≡ false
      by false is = refl
      by true is =
          let f = fresh-page c m true sound (taken-listed (fresh_pages c) m is) in
          let now : f.page.now ≡ [] = sym (ap (λ (o : Option HeldPage). stored_by (owned s owner m) o) f.held) ∙ still ∙ part.pages m f.page f.held ∙ f.given in
          absurd (some_empty f.page.now now f.taken_is)

  each : (m : ℕ) (a b : Bool) → is_among (freed_pages c) m ≡ a → is_among (edited_pages c) m ≡ b → owned v owner m ≡ stored c (owned s owner) m
  each m true b gone made = freed.here m gone ∙ sym (stored-freed c (owned s owner) m sound (listed-any (freed_pages c) m gone))
  each m false true not_gone made =
      let e = edited-page c m sound (listed-any (edited_pages c) m made) in
      freed.rest m not_gone ∙ edited.here m made ∙ bytes_in-stored c (owned s owner) m e.page e.held
  each m false false not_gone not_made =
      let still = stored-not_listed c (owned s owner) m part (λ at. true≢false (sym (any-listed (edited_pages c) m at) ∙ not_made)) (λ at. true≢false (sym (any-listed (freed_pages c) m at) ∙ not_gone)) in
      freed.rest m not_gone ∙ edited.rest m not_made ∙ taken m (not_taken m still) ∙ sym still

  pub owned-stored : owned v owner ≡ stored c (owned s owner)
  owned-stored = λ i m. each m (is_among (freed_pages c) m) (is_among (edited_pages c) m) refl refl i

-- so many changes there are
pub edits-counted : (c : View) → edits_of c ≡ length (edited_pages c) + length (taken_in (fresh_pages c)) + length (freed_pages c)
edits-counted c = ap (λ (n : ℕ). length (edited_pages c) + n + length (freed_pages c)) (sym (length-map (filter (λ e. e.1) (fresh_pages c)) (λ (e : ℕ × Bool). e.0)))
