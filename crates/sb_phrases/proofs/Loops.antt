-- What a loop reads that takes item after item.
use Rattle.std.proofs.Common.{◌≡◌, ℕ, zero, suc, ◌+◌, ◌-◌, ◌<◌, ◌≤◌, List, [], ◌∷◌, ◌++◌, refl, sym, ◌∙◌, ap, subst, append_assoc, Bool, true, false, cond, Some, None, Ok, Err, length, arith, length-append}
use Rattle.std.specs.List.{fold}
use Rattle.std.proofs.lemmas.List.{append-nil}
use Rattle.sb_tokens.specs.declared.token.Token.{Token}
use Rattle.sb_phrases.specs.declared.fault.Fault.{Fault}
use Rattle.sb_phrases.specs.declared.fault.Fault.TheVariants.{NoMemory, Misfit}
use Rattle.sb_language.specs.Reading.{Read, paired, and_then, mapped, token_of, sign_at, starts, more_at, grouped_at}
use Rattle.sb_tokens.specs.Rows.{tokens_of}
use Rattle.sb_phrases.specs.Gives.{Fails}
use Rattle.sb_language.proofs.Front.{Front, Reads, left}

-- ---- a sign that was read
token_read : {T : Type 0} (t : T) (ts us : List T) (b : Bool) → token_of {T = T} {A = Unit {0}} (cond b (Some tt) None) t ts ≡ Ok (tt, us) → (b ≡ true) × (ts ≡ us)
token_read t ts us true e = (refl, ap left e)
token_read t ts us false e = cc

pub record Passed {T : Type 0} (p : T → Bool) (ts us : List T) : Type 0 where
  pub token : T
  pub passes : p token ≡ true
  pub whole : ts ≡ token ∷ us

passed : {T : Type 0} (p : T → Bool) (ts us : List T) → sign_at p ts ≡ Ok (tt, us) → Passed p ts us
passed p [] us e = absurd (let k = e in cc)
passed p (t ∷ ts) us e = let w = token_read t ts us (p t) e in record { token = t; passes = w.0; whole = ap (λ s. t ∷ s) w.1 }

pub passes : {T : Type 0} (p : T → Bool) (ts us : List T) → sign_at p ts ≡ Ok (tt, us) → starts p ts ≡ true
passes p ts us e = let w = passed p ts us e in ap (starts p) w.whole ∙ w.passes

-- ---- faults
pub fails_mapped : {A B : Type 0} (fault : Fault) (f : A → B) (r : Read Token A) → Fails fault r → Fails fault (mapped f r)
fails_mapped NoMemory f r e = tt
fails_mapped (Misfit rest) f r e = ap (mapped f) e

pub fails_first : {A B : Type 0} (fault : Fault) (r : Read Token A) (S : List Token → Read Token B) → Fails fault r → Fails fault (and_then r S)
fails_first NoMemory r S e = tt
fails_first (Misfit rest) r S e = ap (λ s. and_then s S) e

pub fails_second : {A B : Type 0} (fault : Fault) (r : Read Token A) (S : List Token → Read Token B) (a : A) (us : List Token) → r ≡ Ok (a, us) → Fails fault (S us) → Fails fault (and_then r S)
fails_second NoMemory r S a us e f = tt
fails_second (Misfit rest) r S a us e f = ap (λ s. and_then s S) e ∙ ap (paired a) f

-- ---- one step
abbrev onto : {A : Type 0} → Unit {0} × (A × List A) → List A
onto x = x.1.0 ∷ x.1.1

item_read : {T A B : Type 0} (f : List A → B) (a : A) (r : Read T (List A)) → mapped f (mapped onto (paired (tt {0}) (paired a r))) ≡ mapped (λ items. f (a ∷ items)) r
item_read f a (Ok x) = refl
item_read f a (Err l) = refl

more_stop : {T A : Type 0} (n : ℕ) (p : T → Bool) (R : List T → Read T A) (ts : List T) → starts p ts ≡ false → more_at n p R ts ≡ Ok ([], ts)
unfolding more_at
more_stop zero p R ts s = refl
more_stop (suc n) p R ts s = rw s refl

more_item : {T A B : Type 0} (f : List A → B) (n : ℕ) (p : T → Bool) (R : List T → Read T A) (ts us vs : List T) (a : A) → sign_at p ts ≡ Ok (tt, us) → R us ≡ Ok (a, vs) → mapped f (more_at (suc n) p R ts) ≡ mapped (λ items. f (a ∷ items)) (more_at n p R vs)
unfolding more_at
more_item f n p R ts us vs a s e = let k = passes p ts us s in rw (k, s, e) (item_read f a (more_at n p R vs))

more_fault : {T A B : Type 0} (f : List A → B) (n : ℕ) (p : T → Bool) (R : List T → Read T A) (ts us l : List T) → sign_at p ts ≡ Ok (tt, us) → R us ≡ Err l → mapped f (more_at (suc n) p R ts) ≡ Err l
unfolding more_at
more_fault f n p R ts us l s e = let k = passes p ts us s in rw (k, s, e) refl

-- ---- items behind those that were read
abbrev pub with_front : {T A : Type 0} → List A → Read T (List A) → Read T (List A)
with_front front r = mapped (λ items. front ++ items) r

front_more : {T A : Type 0} (front : List A) (a : A) (r : Read T (List A)) → mapped (λ items. front ++ a ∷ items) r ≡ with_front (front ++ a ∷ []) r
front_more front a (Ok x) = ap (λ items. Ok (items, x.1)) (sym (append_assoc front (a ∷ []) x.0))
front_more front a (Err l) = refl

pub items_go_on : {T A : Type 0} (front : List A) (count i : ℕ) (p : T → Bool) (R : List T → Read T A) (ts us vs : List T) (a : A) (total : Read T (List A)) → i < count → sign_at p ts ≡ Ok (tt, us) → R us ≡ Ok (a, vs) →
    with_front front (more_at (count - i) p R ts) ≡ total → with_front (front ++ a ∷ []) (more_at (count - (i + 1)) p R vs) ≡ total
items_go_on front count i p R ts us vs a total lt s e so_far =
    let n : ℕ = count - (i + 1) in
    let k : count - i ≡ suc n = omega arith in
    sym (front_more front a (more_at n p R vs)) ∙ sym (more_item (λ items. front ++ items) n p R ts us vs a s e) ∙ sym (ap (λ m. with_front front (more_at m p R ts)) k) ∙ so_far

pub items_fail : {A : Type 0} (fault : Fault) (front : List A) (count i : ℕ) (p : Token → Bool) (R : List Token → Read Token A) (ts us : List Token) (total : Read Token (List A)) → i < count → sign_at p ts ≡ Ok (tt, us) → Fails fault (R us) →
    with_front front (more_at (count - i) p R ts) ≡ total → Fails fault total
items_fail NoMemory front count i p R ts us total lt s e so_far = tt
items_fail (Misfit rest) front count i p R ts us total lt s e so_far =
    let n : ℕ = count - (i + 1) in
    let k : count - i ≡ suc n = omega arith in
    sym so_far ∙ ap (λ m. with_front front (more_at m p R ts)) k ∙ more_fault (λ items. front ++ items) n p R ts us (tokens_of rest.now) s e

pub items_stop : {T A : Type 0} (front : List A) (n : ℕ) (p : T → Bool) (R : List T → Read T A) (ts : List T) (total : Read T (List A)) → starts p ts ≡ false → with_front front (more_at n p R ts) ≡ total → total ≡ Ok (front, ts)
items_stop front n p R ts total s so_far = sym so_far ∙ ap (λ r. with_front front r) (more_stop n p R ts s) ∙ ap (λ items. Ok (items, ts)) (append-nil front)

pub items_done : {T A : Type 0} (front : List A) (count i : ℕ) (p : T → Bool) (R : List T → Read T A) (ts : List T) (total : Read T (List A)) → count ≤ i → with_front front (more_at (count - i) p R ts) ≡ total → total ≡ Ok (front, ts)
unfolding more_at
items_done front count i p R ts total le so_far =
    let k : count - i ≡ 0 = omega arith in
    sym so_far ∙ ap (λ n. with_front front (more_at n p R ts)) k ∙ ap (λ items. Ok (items, ts)) (append-nil front)

both : {T A B : Type 0} (f : A × List A → B) (a : A) (r : Read T (List A)) → mapped f (paired a r) ≡ mapped (λ items. f (a, items)) r
both f a (Ok x) = refl
both f a (Err l) = refl

-- ---- items that are grouped from the left
pub record GroupedSoFar {T A : Type 0} (group : A → A → A) (p : T → Bool) (R : List T → Read T A) (total : Read T A) (so_far : A) (rest : List T) : Type 0 where
  pub count : ℕ
  pub enough : length rest ≤ count
  pub same : mapped (λ items. fold group so_far items) (more_at count p R rest) ≡ total

pub group_begins : {T A : Type 0} (group : A → A → A) (p : T → Bool) (R : List T → Read T A) (ts us : List T) (a : A) → R ts ≡ Ok (a, us) → GroupedSoFar group p R (grouped_at group p R ts) a us
group_begins group p R ts us a e = record {
  count = length us;
  enough = omega arith;
  same = sym (ap (λ r. mapped (λ x. fold group x.0 x.1) (and_then r (λ vs. more_at (length vs) p R vs))) e ∙ both (λ x. fold group x.0 x.1) a (more_at (length us) p R us));
}

pub group_fails_first : {A : Type 0} (fault : Fault) (group : A → A → A) (p : Token → Bool) (R : List Token → Read Token A) (ts : List Token) → Fails fault (R ts) → Fails fault (grouped_at group p R ts)
group_fails_first fault group p R ts e =
    fails_mapped fault (λ x. fold group x.0 x.1) (and_then (R ts) (λ us. more_at (length us) p R us)) (fails_first fault (R ts) (λ us. more_at (length us) p R us) e)

shorter : {T A : Type 0} (P : A → List T → Type 0) (ts us : List T) (a : A) → Front P ts (Ok (a, us)) → length us ≤ length ts
shorter P ts us a f = omega (arith, ap length f.whole, length-append f.taken us)

-- what was read took tokens
pub falls : {T A : Type 0} (P : A → List T → Type 0) (p : T → Bool) (R : List T → Read T A) (ts us vs : List T) (a : A) → Reads P R → sign_at p ts ≡ Ok (tt, us) → R us ≡ Ok (a, vs) → length vs < length ts
falls P p R ts us vs a f s e =
    let w = passed p ts us s in
    let h = shorter P us vs a (subst (Front P us) e (f.front us)) in
    omega (arith, ap length w.whole)

group_count : {T A : Type 0} (group : A → A → A) (p : T → Bool) (R : List T → Read T A) (total : Read T A) (a b : A) (ts us vs : List T) (n : ℕ) → length vs < length ts → length ts ≤ n → sign_at p ts ≡ Ok (tt, us) → R us ≡ Ok (b, vs) →
    mapped (λ items. fold group a items) (more_at n p R ts) ≡ total → GroupedSoFar group p R total (group a b) vs
group_count group p R total a b ts us vs zero lt le s e so_far = absurd (omega arith)
group_count group p R total a b ts us vs (suc n) lt le s e so_far = record { count = n; enough = omega arith; same = sym (more_item (λ items. fold group a items) n p R ts us vs b s e) ∙ so_far }

pub group_goes_on : {T A : Type 0} (P : A → List T → Type 0) (group : A → A → A) (p : T → Bool) (R : List T → Read T A) (total : Read T A) (a b : A) (ts us vs : List T) → Reads P R → sign_at p ts ≡ Ok (tt, us) → R us ≡ Ok (b, vs) →
    GroupedSoFar group p R total a ts → GroupedSoFar group p R total (group a b) vs
group_goes_on P group p R total a b ts us vs f s e g = group_count group p R total a b ts us vs g.count (falls P p R ts us vs b f s e) g.enough s e g.same

pub group_ends : {T A : Type 0} (group : A → A → A) (p : T → Bool) (R : List T → Read T A) (total : Read T A) (a : A) (ts : List T) → starts p ts ≡ false → GroupedSoFar group p R total a ts → total ≡ Ok (a, ts)
group_ends group p R total a ts s g = sym g.same ∙ ap (λ r. mapped (λ items. fold group a items) r) (more_stop g.count p R ts s)

fails_at : {A : Type 0} (group : A → A → A) (p : Token → Bool) (R : List Token → Read Token A) (total : Read Token A) (a : A) (ts us l : List Token) (n : ℕ) → length ts ≤ n → sign_at p ts ≡ Ok (tt, us) → R us ≡ Err l →
    mapped (λ items. fold group a items) (more_at n p R ts) ≡ total → total ≡ Err l
fails_at group p R total a ts us l zero le s e so_far = absurd (omega (arith, ap length (passed p ts us s).whole))
fails_at group p R total a ts us l (suc n) le s e so_far = sym so_far ∙ more_fault (λ items. fold group a items) n p R ts us l s e

pub group_fails : {A : Type 0} (fault : Fault) (group : A → A → A) (p : Token → Bool) (R : List Token → Read Token A) (total : Read Token A) (a : A) (ts us : List Token) → sign_at p ts ≡ Ok (tt, us) → Fails fault (R us) → GroupedSoFar group p R total a ts → Fails fault total
group_fails NoMemory group p R total a ts us s e g = tt
group_fails (Misfit rest) group p R total a ts us s e g = fails_at group p R total a ts us (tokens_of rest.now) g.count g.enough s e g.same
