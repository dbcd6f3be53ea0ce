-- The pages of an instance are whole, also once what a call made of them is stored; and no page of formed ones is called broken.
use Rattle.std.proofs.Common.{◌≡◌, ◌≢◌, ℕ, ◌≤◌, Bool, true, false, cond, List, [], ◌∷◌, length, Option, Some, None, option_map, refl, sym, ap, ◌∙◌, arith, true≢false}
use Rattle.std.proofs.lemmas.List.{nil_from_length}
use Rattle.sb_forms.specs.Content.{Content}
use Rattle.sb_forms.specs.Db.{Rows}
use Rattle.sb_forms.specs.Pages.{Pages, IsWhole, ArePages}
use Rattle.sb_ctx.specs.declared.instance.Instance.{Instance}
use Rattle.sb_ctx.specs.declared.moves.Move.TheVariants.{Broken}
use Rattle.sb_ctx.specs.View.{HeldPage, View, given_at, held_at, AreSomeOf, HoldsPart, stored}
use Rattle.sb_ctx.specs.Sized.{AreSized}
use Rattle.sb_ctx.proofs.ViewLaws.{stored_by}
use Rattle.sb_ctx.specs.Method.{Method}
use Rattle.sb_ctx.specs.MethodAnswers.{IsBroken}
use Rattle.sb_ctx.specs.Attachment.{Attachment}
use Rattle.sb_ctx.specs.AttachAnswers.{IsBroken as IsBrokenFor}
use Rattle.sb_ctx.specs.Laws.{IsMethod, IsAttachment}

is_nil : (bytes : List ℕ) → ((bytes ≢ []) → ⊥) → bytes ≡ []
is_nil [] not_some = refl
is_nil (b ∷ bytes) not_some = absurd (not_some (λ e. cc))

-- ---- stored pages
below : (c : View) (P : Pages) → AreSized c.held → HoldsPart c P → (n : ℕ) → 65536 ≤ n → (o : Option HeldPage) → held_at c n ≡ o → stored_by (P n) o ≡ []
below c P sized part n far None there = part.are_pages.below n far
below c P sized part n far (Some h) there = is_nil h.now (λ some. by h.fresh refl some)
  where
    by : (b : Bool) → h.fresh ≡ b → h.now ≢ [] → ⊥
    by true fresh some = omega (arith, part.fresh n h there fresh)
    by false old some =
        some (nil_from_length h.now ((sized n h there).long some ∙ ap (λ b. cond b 4096 (length h.given)) old ∙ ap length (sym (part.pages n h there) ∙ part.are_pages.below n far)))

whole : (c : View) (P : Pages) → AreSized c.held → HoldsPart c P → (n : ℕ) → (o : Option HeldPage) → held_at c n ≡ o → stored_by (P n) o ≢ [] → IsWhole (stored_by (P n) o)
whole c P sized part n None there some = part.are_pages.whole n some
whole c P sized part n (Some h) there some = record { long = (sized n h there).long some ∙ by h.fresh refl; small = (sized n h there).bytes }
  where
    given : h.fresh ≡ false → length h.given ≡ 4096
    given old =
        ap length (sym (part.pages n h there)) ∙ (part.are_pages.whole n (λ none. some (nil_from_length h.now
        ((sized n h there).long some ∙ ap (λ b. cond b 4096 (length h.given)) old ∙ ap length (sym (part.pages n h there) ∙ none))))).long

    by : (b : Bool) → h.fresh ≡ b → cond h.fresh 4096 (length h.given) ≡ 4096
    by true fresh = ap (λ b. cond b 4096 (length h.given)) fresh
    by false old = ap (λ b. cond b 4096 (length h.given)) old ∙ given old

pub ArePages-stored : (c : View) (P : Pages) → AreSized c.held → HoldsPart c P → ArePages (stored c P)
ArePages-stored c P sized part = record {
  below = λ n far. below c P sized part n far (held_at c n) refl;
  whole = λ n some. whole c P sized part n (held_at c n) refl some;
}

-- ---- broken pages
pub AreSomeOf-given : (c : View) (P : Pages) → HoldsPart c P → AreSomeOf (given_at c) P
AreSomeOf-given c P part n bytes is = by (held_at c n) refl is
  where
    by : (o : Option HeldPage) → held_at c n ≡ o → option_map (λ (h : HeldPage). h.given) o ≡ Some bytes → P n ≡ bytes
    by None there is = cc
    by (Some h) there is = part.pages n h there ∙ same h.given bytes is
      where
        same : (xs ys : List ℕ) → Some xs ≡ Some ys → xs ≡ ys
        same xs ys e = cc

-- a page of formed ones is never called broken
pub never_broken : (m : Method) (inst : Instance) (c : View) (P : Pages) (rows : Rows) (n : ℕ) → IsMethod m → m.read inst P ≡ Some rows → HoldsPart c P → IsBroken m inst c (Broken n) → ⊥
never_broken m inst c P rows n law reads part broken =
    true≢false (sym broken ∙ (law.formed inst P rows reads).whole (given_at c) n (AreSomeOf-given c P part))

pub never_broken_content : (a : Attachment) (inst : Instance) (c : View) (P : Pages) (content : Content) (n : ℕ) → IsAttachment a → a.content inst P ≡ Some content → HoldsPart c P → IsBrokenFor a inst c (Broken n) → ⊥
never_broken_content a inst c P content n law reads part broken =
    true≢false (sym broken ∙ (law.formed inst P content reads).whole (given_at c) n (AreSomeOf-given c P part))
