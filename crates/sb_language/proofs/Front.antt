-- A reader takes the longest front of the tokens that begins a sentence.
use Rattle.std.proofs.Common.{◌≡◌, List, [], ◌∷◌, ◌++◌, refl, sym, ◌∙◌, ap, subst, append_assoc, ◌⊎◌, inl, inr, Bool, true, false, cond, Option, Some, None, Ok, Err, IfSome}
use Rattle.sb_language.specs.Lang.{◌⨾◌, just}
use Rattle.sb_language.specs.Reading.{Read, paired, and_then, mapped, token_of, token_at, passing, sign_at}

-- some value's sentence begins with these tokens
pub record Begins {T A : Type 0} (P : A → List T → Type 0) (ts : List T) : Type 0 where
  pub value : A
  pub more : List T
  pub spelled : P value (ts ++ more)

-- what the reader left
abbrev pub left : {T A : Type 0} → Read T A → List T
left (Ok read) = read.1
left (Err rest) = rest

-- more is nothing, or goes on with the next token
abbrev pub Next : {T : Type 0} → List T → List T → Type 0
Next rest [] = Unit {0}
Next [] (s ∷ more) = ⊥
Next (t ∷ rest) (s ∷ more) = t ≡ s

-- what was taken is a sentence, or begins one
abbrev pub Made : {T A : Type 0} → (A → List T → Type 0) → List T → Read T A → Type 0
Made P taken (Ok read) = P read.0 taken
Made P taken (Err rest) = Begins P taken

-- just the value that was read, and nothing more
abbrev pub Same : {T A : Type 0} → Read T A → A → List T → Type 0
Same (Ok read) b more = (b ≡ read.0) × (more ≡ [])
Same (Err rest) b more = ⊥

-- the longest front that begins a sentence was taken: none goes on with the next token, and no other value has it
pub record Front {T A : Type 0} (P : A → List T → Type 0) (ts : List T) (r : Read T A) : Type 0 where
  pub taken : List T
  pub whole : ts ≡ taken ++ left r
  pub made : Made P taken r
  pub only : (b : A) (more : List T) → Next (left r) more → P b (taken ++ more) → Same r b more

-- the reader takes such a front of any tokens, and the language has a sentence
pub record Reads {T A : Type 0} (P : A → List T → Type 0) (R : List T → Read T A) : Type 0 where
  pub front : (ts : List T) → Front P ts (R ts)
  pub some : Begins P []

-- where a sentence of P ends, what may follow by Q can't go on in P
abbrev pub Parted : {T A B : Type 0} → (A → List T → Type 0) → (B → List T → Type 0) → Type 0
Parted {T} {A} {B} P Q = (a a2 : A) (b : B) (us : List T) (h : T) (m n : List T) → P a us → P a2 (us ++ h ∷ m) → Q b (h ∷ n) → ⊥

-- ---- lists
pub tails : {T : Type 0} (x u : T) (xs us : List T) → x ∷ xs ≡ u ∷ us → xs ≡ us
tails x u xs us e = cc

pub heads : {T : Type 0} (x u : T) (xs us : List T) → x ∷ xs ≡ u ∷ us → x ≡ u
heads x u xs us e = cc

abbrev pub Longer : {T : Type 0} → (xs ys us vs : List T) → Type 0
Longer {T} xs ys us vs = (d : List T) × (xs ≡ us ++ d) × (d ++ ys ≡ vs)

abbrev pub Shorter : {T : Type 0} → (xs ys us vs : List T) → Type 0
Shorter {T} xs ys us vs = (h : T) × (d : List T) × (us ≡ xs ++ h ∷ d) × (ys ≡ h ∷ (d ++ vs))

-- of two fronts of one list, one is the longer
pub cut : {T : Type 0} (xs ys us vs : List T) → xs ++ ys ≡ us ++ vs → Longer xs ys us vs ⊎ Shorter xs ys us vs
cut xs ys [] vs e = inl (xs, refl, e)
cut [] ys (u ∷ us) vs e = inr (u, us, refl, e)
cut (x ∷ xs) ys (u ∷ us) vs e =
    elim (cut xs ys us vs (tails x u (xs ++ ys) (us ++ vs) e)) as (λ _. Longer (x ∷ xs) ys (u ∷ us) vs ⊎ Shorter (x ∷ xs) ys (u ∷ us) vs) [
      | inl w ↦ inl (w.0, (let f = w.1 in let g = heads x u (xs ++ ys) (us ++ vs) e in cc), w.2)
      | inr w ↦ inr (w.0, w.1, (let f = w.2 in let g = heads x u (xs ++ ys) (us ++ vs) e in cc), w.3)
    ]

next_front : {T : Type 0} (rest d w more : List T) → Next rest more → d ++ w ≡ more → Next rest d
next_front rest [] w more n e = tt
next_front rest (t ∷ d) w [] n e = cc
next_front [] (t ∷ d) w (s ∷ more) n e = n
next_front (x ∷ rest) (t ∷ d) w (s ∷ more) n e = n ∙ sym (heads t s (d ++ w) more e)

next_both : {T : Type 0} (taken rest more : List T) → Next rest more → Next (taken ++ rest) (taken ++ more)
next_both [] rest more n = n
next_both (u ∷ taken) rest more n = refl

next_self : {T : Type 0} (rest : List T) → Next rest rest
next_self [] = tt
next_self (t ∷ rest) = refl

none_next : {T : Type 0} (t : T) (more : List T) → Next [] more → more ≡ t ∷ [] → ⊥
none_next t [] n e = cc
none_next t (s ∷ more) n e = n

same_next : {T : Type 0} (u : T) (ts : List T) (t : T) (more : List T) → Next (u ∷ ts) more → more ≡ t ∷ [] → u ≡ t
same_next u ts t [] n e = cc
same_next u ts t (s ∷ more) n e = n ∙ heads s t more [] e

-- ---- one behind the other
then_fault : {T A B : Type 0} (P : A → List T → Type 0) (Q : B → List T → Type 0) (ts rest : List T) → Parted P Q → Begins Q [] → Front P ts (Err rest) → Front (λ (x : A × B). P x.0 ⨾ Q x.1) ts (Err rest)
then_fault {T} {A} {B} P Q ts rest parted some f = record {
  taken = f.taken;
  whole = f.whole;
  made = record {
    value = (f.made.value, some.value);
    more = f.made.more ++ some.more;
    spelled = record { front = f.taken ++ f.made.more; back = some.more; is_front = f.made.spelled; is_back = some.spelled; whole = sym (append_assoc f.taken f.made.more some.more) };
  };
  only = λ b more n h. elim (cut h.front h.back f.taken more (sym h.whole)) as (λ _. ⊥) [
    | inl w ↦ f.only b.0 w.0 (next_front rest w.0 h.back more n w.2) (subst (P b.0) w.1 h.is_front)
    | inr w ↦ parted b.0 f.made.value b.1 h.front w.0 (w.1 ++ f.made.more) (w.1 ++ more) h.is_front
        (subst (P f.made.value) (ap (λ s. s ++ f.made.more) w.2 ∙ append_assoc h.front (w.0 ∷ w.1) f.made.more) f.made.spelled)
        (subst (Q b.1) w.3 h.is_back)
  ];
}

-- a sentence of both begins with what was read of the first
record Behind {T A B : Type 0} (Q : B → List T → Type 0) (a : A) (taken : List T) (b : A × B) (more : List T) : Type 0 where
  pub same : b.0 ≡ a
  pub second : Q b.1 (taken ++ more)

behind : {T A B : Type 0} (P : A → List T → Type 0) (Q : B → List T → Type 0) (ts rest : List T) (a : A) (r : Read T B) (b : A × B) (more : List T) → Parted P Q →
    (f : Front P ts (Ok (a, rest))) → (g : Front Q rest r) → Next (left r) more → (P b.0 ⨾ Q b.1) ((f.taken ++ g.taken) ++ more) → Behind Q a g.taken b more
behind {T} {A} {B} P Q ts rest a r b more parted f g n h =
    elim (cut h.front h.back f.taken (g.taken ++ more) (sym h.whole ∙ append_assoc f.taken g.taken more)) as (λ _. Behind Q a g.taken b more) [
      | inl w ↦
          let nx : Next rest w.0 = next_front rest w.0 h.back (g.taken ++ more) (subst (λ s. Next s (g.taken ++ more)) (sym g.whole) (next_both g.taken (left r) more n)) w.2 in
          let s : (b.0 ≡ a) × (w.0 ≡ []) = f.only b.0 w.0 nx (subst (P b.0) w.1 h.is_front) in
          record { same = s.0; second = subst (Q b.1) (sym (ap (λ d. d ++ h.back) s.1) ∙ w.2) h.is_back }
      | inr w ↦ absurd (parted b.0 a b.1 h.front w.0 w.1 (w.1 ++ (g.taken ++ more)) h.is_front (subst (P a) w.2 f.made) (subst (Q b.1) w.3 h.is_back))
    ]

then_read : {T A B : Type 0} (P : A → List T → Type 0) (Q : B → List T → Type 0) (ts rest : List T) (a : A) (r : Read T B) → Parted P Q → Front P ts (Ok (a, rest)) → Front Q rest r → Front (λ (x : A × B). P x.0 ⨾ Q x.1) ts (paired a r)
then_read P Q ts rest a (Ok x) parted f g = record {
  taken = f.taken ++ g.taken;
  whole = f.whole ∙ ap (λ s. f.taken ++ s) g.whole ∙ sym (append_assoc f.taken g.taken x.1);
  made = record { front = f.taken; back = g.taken; is_front = f.made; is_back = g.made; whole = refl };
  only = λ b more n h. let k = behind P Q ts rest a (Ok x) b more parted f g n h in let s = g.only b.1 more n k.second in ((λ i. (k.same i, s.0 i)), s.1);
}
then_read P Q ts rest a (Err l) parted f g = record {
  taken = f.taken ++ g.taken;
  whole = f.whole ∙ ap (λ s. f.taken ++ s) g.whole ∙ sym (append_assoc f.taken g.taken l);
  made = record {
    value = (a, g.made.value);
    more = g.made.more;
    spelled = record { front = f.taken; back = g.taken ++ g.made.more; is_front = f.made; is_back = g.made.spelled; whole = append_assoc f.taken g.taken g.made.more };
  };
  only = λ b more n h. g.only b.1 more n (behind P Q ts rest a (Err l) b more parted f g n h).second;
}

-- what stands behind the first is read as the second
pub then_at : {T A B : Type 0} (P : A → List T → Type 0) (Q : B → List T → Type 0) (ts : List T) (r : Read T A) (S : List T → Read T B) → Parted P Q → Begins Q [] → Front P ts r →
    ((a : A) (us taken : List T) → ts ≡ taken ++ us → P a taken → Front Q us (S us)) → Front (λ (x : A × B). P x.0 ⨾ Q x.1) ts (and_then r S)
then_at P Q ts (Ok x) S parted some f g = then_read P Q ts x.1 x.0 (S x.1) parted f (g x.0 x.1 f.taken f.whole f.made)
then_at P Q ts (Err l) S parted some f g = then_fault P Q ts l parted some f

pub some_then : {T A B : Type 0} (P : A → List T → Type 0) (Q : B → List T → Type 0) → Begins P [] → Begins Q [] → Begins (λ (x : A × B). P x.0 ⨾ Q x.1) []
some_then P Q f g = record { value = (f.value, g.value); more = f.more ++ g.more; spelled = record { front = f.more; back = g.more; is_front = f.spelled; is_back = g.spelled; whole = refl } }

pub reads_then : {T A B : Type 0} (P : A → List T → Type 0) (Q : B → List T → Type 0) (R : List T → Read T A) (S : List T → Read T B) → Parted P Q → Reads P R → Reads Q S → Reads (λ (x : A × B). P x.0 ⨾ Q x.1) (λ ts. and_then (R ts) S)
reads_then P Q R S parted f g = record { front = λ ts. then_at P Q ts (R ts) S parted g.some (f.front ts) (λ a us taken w e. g.front us); some = some_then P Q f.some g.some }

-- ---- the values of one language as those of another
pub as_read : {T A B : Type 0} (P : A → List T → Type 0) (Q : B → List T → Type 0) (f : A → B) (ts : List T) (r : Read T A) →
    ((a : A) (us : List T) → P a us → Q (f a) us) → ((b : B) (us : List T) → Q b us → (a : A) × (b ≡ f a) × P a us) → Front P ts r → Front Q ts (mapped f r)
as_read P Q f ts (Ok x) to from g = record {
  taken = g.taken;
  whole = g.whole;
  made = to x.0 g.taken g.made;
  only = λ b more n q. let w = from b (g.taken ++ more) q in let s = g.only w.0 more n w.2 in (w.1 ∙ ap f s.0, s.1);
}
as_read P Q f ts (Err l) to from g = record {
  taken = g.taken;
  whole = g.whole;
  made = record { value = f g.made.value; more = g.made.more; spelled = to g.made.value (g.taken ++ g.made.more) g.made.spelled };
  only = λ b more n q. let w = from b (g.taken ++ more) q in g.only w.0 more n w.2;
}

pub reads_as : {T A B : Type 0} (P : A → List T → Type 0) (Q : B → List T → Type 0) (R : List T → Read T A) (f : A → B) →
    ((a : A) (us : List T) → P a us → Q (f a) us) → ((b : B) (us : List T) → Q b us → (a : A) × (b ≡ f a) × P a us) → Reads P R → Reads Q (λ ts. mapped f (R ts))
reads_as P Q R f to from h = record { front = λ ts. as_read P Q f ts (R ts) to from (h.front ts); some = record { value = f h.some.value; more = h.some.more; spelled = to h.some.value h.some.more h.some.spelled } }

-- ---- one token
-- a token for a value is one that is picked for it
abbrev pub Picks : {T A : Type 0} → (A → List T → Type 0) → (T → Option A) → Type 0
Picks {T} {A} P pick = (b : A) (us : List T) → P b us → (t : T) × (us ≡ t ∷ []) × (pick t ≡ Some b)

none_token : {T A : Type 0} (P : A → List T → Type 0) (pick : T → Option A) → Begins P [] → Picks P pick → Front P [] (Err [])
none_token P pick some picks = record { taken = []; whole = refl; made = some; only = λ b more n q. let w = picks b more q in none_next w.0 more n w.1 }

one_token : {T A : Type 0} (P : A → List T → Type 0) (pick : T → Option A) (u : T) (ts : List T) (o : Option A) → Begins P [] → Picks P pick → pick u ≡ o → IfSome o (λ a. P a (u ∷ [])) → Front P (u ∷ ts) (token_of o u ts)
one_token P pick u ts None some picks e y = record {
  taken = [];
  whole = refl;
  made = some;
  only = λ b more n q. let w = picks b more q in let s = same_next u ts w.0 more n w.1 in let e1 = w.2 in cc;
}
one_token P pick u ts (Some x) some picks e y = record {
  taken = u ∷ [];
  whole = refl;
  made = y;
  only = λ b more n q. let w = picks b (u ∷ more) q in
      let h : u ≡ w.0 = heads u w.0 more [] w.1 in
      ((let e1 = w.2 in let k : Some b ≡ Some x = cc in cc), tails u w.0 more [] w.1);
}

front_token : {T A : Type 0} (P : A → List T → Type 0) (pick : T → Option A) → Begins P [] → ((t : T) → IfSome (pick t) (λ a. P a (t ∷ []))) → Picks P pick → (ts : List T) → Front P ts (token_at pick ts)
front_token P pick some given picks [] = none_token P pick some picks
front_token P pick some given picks (u ∷ ts) = one_token P pick u ts (pick u) some picks refl (given u)

pub reads_token : {T A : Type 0} (P : A → List T → Type 0) (pick : T → Option A) → Begins P [] → ((t : T) → IfSome (pick t) (λ a. P a (t ∷ []))) → Picks P pick → Reads P (token_at pick)
reads_token P pick some given picks = record { front = front_token P pick some given picks; some = some }

-- a test that just this token passes
pub record Tests {T : Type 0} (p : T → Bool) (t : T) : Type 0 where
  pub here : p t ≡ true
  pub alone : (s : T) → p s ≡ true → s ≡ t

given_sign : {T : Type 0} (p : T → Bool) (t s : T) (b : Bool) → Tests p t → p s ≡ b → IfSome (cond b (Some tt) None) (λ (_ : Unit {0}). s ∷ [] ≡ t ∷ [])
given_sign p t s true h e = ap (λ x. x ∷ []) (h.alone s e)
given_sign p t s false h e = tt

pub reads_sign : {T : Type 0} (p : T → Bool) (t : T) → Tests p t → Reads (λ (_ : Unit {0}). just t) (sign_at p)
reads_sign p t h = reads_token (λ _. just t) (passing p) (record { value = tt; more = t ∷ []; spelled = refl })
    (λ s. given_sign p t s (p s) h refl)
    (λ b us e. (t, e, ap (λ v. cond v (Some tt) None) h.here))

-- ---- sentences of one token, which no other begins
abbrev pub Single : {T A : Type 0} → (A → List T → Type 0) → Type 0
Single {T} {A} P = (a : A) (us : List T) → P a us → (t : T) × (us ≡ t ∷ [])

pub longer_single : {T : Type 0} (us : List T) (t s h : T) (m : List T) → us ≡ t ∷ [] → us ++ h ∷ m ≡ s ∷ [] → ⊥
longer_single [] t s h m e f = cc
longer_single (u ∷ []) t s h m e f = let g = tails u s (h ∷ m) [] f in cc
longer_single (u ∷ v ∷ us) t s h m e f = let g = tails u t (v ∷ us) [] e in cc

pub parted_single : {T A B : Type 0} (P : A → List T → Type 0) (Q : B → List T → Type 0) → Single P → Parted P Q
parted_single P Q one a a2 b us h m n x y z = let w = one a us x in let v = one a2 (us ++ h ∷ m) y in longer_single us w.0 v.0 h m w.1 v.1

-- ---- a whole row
whole_read : {T A : Type 0} (P : A → List T → Type 0) (ts : List T) (r : Read T A) (a : A) → Front P ts r → P a ts → r ≡ Ok (a, [])
whole_read P ts (Ok x) a g h = let s = g.only a x.1 (next_self x.1) (subst (P a) g.whole h) in λ i. Ok (sym s.0 i, s.1 i)
whole_read P ts (Err l) a g h = absurd (g.only a l (next_self l) (subst (P a) g.whole h))

-- what is spelled is read, and nothing is left
pub reads_whole : {T A : Type 0} (P : A → List T → Type 0) (R : List T → Read T A) (ts : List T) (a : A) → Reads P R → P a ts → R ts ≡ Ok (a, [])
reads_whole P R ts a f h = whole_read P ts (R ts) a (f.front ts) h
