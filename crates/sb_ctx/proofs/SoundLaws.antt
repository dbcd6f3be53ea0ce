-- What keeps the pages of a Ctx sound.
use Rattle.std.proofs.Common.{refl, ◌≡◌, ℕ, ◌==◌, Bool, true, false, cond, List, [], Option, Some, None, option_map, T, sym, ap, subst, ◌∙◌, nat_cmp}
use Rattle.std.specs.FinMap.Entries.{put, is_sorted}
use Rattle.sb_ctx.specs.View.{HeldPage, View, bytes_put, as_given, nothing, with_page, with_held, given_page, fresh_page, dropped}
use Rattle.sb_ctx.specs.Held.{Entries, page_in, with_bytes, each}
use Rattle.sb_ctx.proofs.HeldLaws.{Rises-put, page_in-put, page_in-each, page_in-bytes_put, is_sorted-each, is_sorted-bytes_put}
use Rattle.sb_ctx.specs.Sound.{AreSound, IsSound, MayBeHeld}

-- what holds of a page that is found by either way
either : (P : HeldPage → Type 0) (b : Bool) (o : Option HeldPage) (g h : HeldPage) → cond b (Some g) o ≡ Some h → P g → (o ≡ Some h → P h) → P h
either P true o g h is here there = subst P (same g h is) here
  where
    same : (x y : HeldPage) → Some x ≡ Some y → x ≡ y
    same x y e = cc
either P false o g h is here there = there is

-- what holds of each page, changed or not, where a change keeps it
mapped : (P : HeldPage → Type 0) (f : HeldPage → HeldPage) → ((h : HeldPage) → P h → P (f h)) → (o : Option HeldPage) (h : HeldPage) → ((g : HeldPage) → o ≡ Some g → P g) → option_map f o ≡ Some h → P h
mapped P f keeps None h all is = cc
mapped P f keeps (Some g) h all is = subst P (same (f g) h is) (keeps g (all g refl))
  where
    same : (x y : HeldPage) → Some x ≡ Some y → x ≡ y
    same x y e = cc

pub AreSound-nil : AreSound []
AreSound-nil = record { rises = tt; fresh = λ n h is. cc }

pub AreSound-put : (held : Entries) (n : ℕ) (h : HeldPage) → MayBeHeld h → AreSound held → AreSound (put nat_cmp n h held)
AreSound-put held n h may sound = record {
  rises = Rises-put held n h sound.rises;
  fresh = λ m g is. either MayBeHeld (n == m) (page_in held m) h g (sym (page_in-put held n m h) ∙ is) may (sound.fresh m g);
}

pub AreSound-bytes_put : (held : Entries) (n : ℕ) (bytes : List ℕ) → AreSound held → AreSound (bytes_put n bytes held)
AreSound-bytes_put held n bytes sound = record {
  rises = subst T (sym (is_sorted-bytes_put n bytes held)) sound.rises;
  fresh = λ m g is. changed m g (n == m) (sym (page_in-bytes_put held n m bytes) ∙ is);
}
  where
    changed : (m : ℕ) (g : HeldPage) (b : Bool) → cond b (option_map (with_bytes bytes) (page_in held m)) (page_in held m) ≡ Some g → MayBeHeld g
    changed m g true is = mapped MayBeHeld (with_bytes bytes) (λ h may. may) (page_in held m) g (sound.fresh m) is
    changed m g false is = sound.fresh m g is

pub AreSound-as_given : (held : Entries) → AreSound held → AreSound (each as_given held)
AreSound-as_given held sound = record {
  rises = subst T (sym (is_sorted-each as_given held)) sound.rises;
  fresh = λ m g is. mapped MayBeHeld as_given (λ h may. may) (page_in held m) g (sound.fresh m) (sym (page_in-each as_given held m) ∙ is);
}

pub IsSound-nothing : IsSound nothing
IsSound-nothing = AreSound-nil

pub IsSound-with_page : (c : View) (n : ℕ) (bytes : List ℕ) → IsSound c → IsSound (with_page n bytes c)
IsSound-with_page c n bytes = AreSound-bytes_put c.held n bytes

pub IsSound-given : (c : View) (n : ℕ) (bytes : List ℕ) → IsSound c → IsSound (with_held n (given_page bytes) c)
IsSound-given c n bytes = AreSound-put c.held n (given_page bytes) (λ fresh. cc)

pub IsSound-fresh : (c : View) (n : ℕ) → IsSound c → IsSound (with_held n fresh_page c)
IsSound-fresh c n = AreSound-put c.held n fresh_page (λ fresh. refl)

-- of a Ctx after a call whose edits are dropped again
pub IsSound-dropped : (c : View) → IsSound c → IsSound (dropped c)
IsSound-dropped c = AreSound-as_given c.held

pub IsSound-from_dropped : (c old : View) → dropped c ≡ old → IsSound old → IsSound c
IsSound-from_dropped c old is sound = record {
  rises = subst T (ap (λ (v : View). is_sorted nat_cmp v.held) (sym is) ∙ is_sorted-each as_given c.held) sound.rises;
  fresh = λ n h there. sound.fresh n (as_given h) (sym (ap (λ (v : View). page_in v.held n) is) ∙ page_in-each as_given c.held n ∙ ap (option_map as_given) there);
}
