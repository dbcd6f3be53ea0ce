-- A tree that meets all pages of an instance still does once it was changed.
use Rattle.std.proofs.Common.{◌≡◌, ℕ, ◌<◌, true, false, true≢false, refl, ap, sym, ◌∙◌, inl, inr}
use Rattle.std.proofs.lemmas.Bool.{true_from_ne_false}
use Rattle.sb_forms.specs.Fits.{is_empty}
use Rattle.sb_forms.specs.Pages.{Pages}
use Rattle.sb_forms.specs.Read.{has}
use Rattle.sb_forms.specs.TreePages.{tree_met}
use Rattle.sb_forms.proofs.Maps.{MeetsAll}
use Rattle.sb_ctx.specs.View.{View, fresh_page, HoldsPart}
use Rattle.sb_btree.specs.Inserts.{IsFree, Grew}
use Rattle.sb_btree.specs.Removes.{Shrank}

-- a fresh page that is free has a number of a page
pub free_low : (c : View) (P : Pages) (n : ℕ) → HoldsPart c P → IsFree c n → n < 65536
free_low c P n part free = part.fresh n fresh_page free refl

-- ---- an entry more
pub grown_met : (c : View) (root : ℕ) (P Q : Pages) (n : ℕ) → Grew c root P Q → (is_empty (P n) ≡ false → has n (tree_met root P) ≡ true) → is_empty (Q n) ≡ false → has n (tree_met root Q) ≡ true
grown_met c root P Q n grew met some =
    true_from_ne_false (has n (tree_met root Q)) (λ none. true≢false (sym (grew.to n (met (ap is_empty (sym (grew.keeps n none)) ∙ some))) ∙ none))

pub grown_low : (c : View) (root : ℕ) (R P Q : Pages) (n : ℕ) → HoldsPart c R → Grew c root P Q → (has n (tree_met root P) ≡ true → n < 65536) → has n (tree_met root Q) ≡ true → n < 65536
grown_low c root R P Q n part grew low is = elim (grew.from n is) [ inl old ↦ low old | inr free ↦ free_low c R n part free ]

pub MeetsAll-grown : (c : View) (root : ℕ) (R P Q : Pages) → HoldsPart c R → Grew c root P Q → MeetsAll root P → MeetsAll root Q
MeetsAll-grown c root R P Q part grew meets = record {
  all = λ n less some. grown_met c root P Q n grew (meets.all n less) some;
  low = λ n is. grown_low c root R P Q n part grew (meets.low n) is;
}

-- ---- an entry less
pub shrunk_met : (c : View) (root : ℕ) (P Q : Pages) (n : ℕ) → Shrank c root P Q → (is_empty (P n) ≡ false → has n (tree_met root P) ≡ true) → is_empty (Q n) ≡ false → has n (tree_met root Q) ≡ true
shrunk_met c root P Q n shrank met some = true_from_ne_false (has n (tree_met root Q)) (λ none. by none)
  where
    by : has n (tree_met root Q) ≡ false → ⊥
    by none = elim (has n (tree_met root P)) as (λ b. has n (tree_met root P) ≡ b → ⊥) [
      | true ↦ λ old. elim (shrank.to n old) [ inl new ↦ true≢false (sym new ∙ none) | inr gone ↦ true≢false (sym (ap is_empty gone) ∙ some) ]
      | false ↦ λ other. true≢false (sym (met (ap is_empty (sym (shrank.keeps n other none)) ∙ some)) ∙ other)
    ] refl

pub shrunk_low : (c : View) (root : ℕ) (R P Q : Pages) (n : ℕ) → HoldsPart c R → Shrank c root P Q → (has n (tree_met root P) ≡ true → n < 65536) → has n (tree_met root Q) ≡ true → n < 65536
shrunk_low c root R P Q n part shrank low is = elim (shrank.from n is) [ inl old ↦ low old | inr free ↦ free_low c R n part free ]

pub MeetsAll-shrunk : (c : View) (root : ℕ) (R P Q : Pages) → HoldsPart c R → Shrank c root P Q → MeetsAll root P → MeetsAll root Q
MeetsAll-shrunk c root R P Q part shrank meets = record {
  all = λ n less some. shrunk_met c root P Q n shrank (meets.all n less) some;
  low = λ n is. shrunk_low c root R P Q n part shrank (meets.low n) is;
}
