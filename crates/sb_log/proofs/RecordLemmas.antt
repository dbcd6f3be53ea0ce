-- What stands in front of some bytes where they begin with a record.
use Rattle.std.proofs.Common.{◌≡◌, ℕ, ◌+◌, ◌^◌, ◌<◌, ◌≤◌, List, ◌∷◌, ◌++◌, length, take, drop, suc, refl, sym, ap, ◌∙◌, append_assoc, arith, Option, Some, None}
use Rattle.std.specs.Int.{to_be_bytes, w16, w32}
use Rattle.std.proofs.lemmas.List.{length-append, length-drop, length-take, take-append-drop, drop-drop, drop_at}
use Rattle.sb_bytes.specs.Field.{number_at, AreBytes}
use Rattle.sb_bytes.proofs.Fronts.{same_fronts}
use Rattle.sb_log.specs.declared.record.Rec.{Rec}
use Rattle.sb_log.specs.Records.{Change, Record, Begin, Image, Changed, Back, Commit, spelling, IsChange, IsRecord, Begins, NoneBegins}
use Rattle.sb_log.specs.Rec.{record_of, IsRead, Answers}
use Rattle.sb_log.proofs.FieldLemmas.{field_and_rest, number_at-front, number_at-behind, same_fronts_of}

-- how long the records with bytes are
pub length-image : (page : ℕ) (bytes : List ℕ) → length (spelling (Image page bytes)) ≡ 5 + length bytes
length-image page bytes = omega (arith, length-append (2 ∷ to_be_bytes w32 page) bytes)

pub length-change : (c : Change) → length (spelling (Changed c)) ≡ 15 + length c.before + length c.after
length-change c =
    let header : List ℕ = 3 ∷ to_be_bytes w32 c.tx ++ to_be_bytes w16 c.owner ++ to_be_bytes w32 c.page ++ to_be_bytes w16 c.offset ++ to_be_bytes w16 (length c.after) in
    omega (arith, length-append (header ++ c.before) c.after, length-append header c.before)

-- ---- what is read is spelled
pub Begin-begins : (rest : List ℕ) (tx : ℕ) → 4 ≤ length rest → AreBytes rest → tx < 2 ^ 32 → tx ≡ number_at 4 rest 0 → Begins (1 ∷ rest) (Begin tx) 5
Begin-begins rest tx long are below is =
    record { sound = below; front = ap (λ (l : List ℕ). 1 ∷ l) (field_and_rest 4 0 tx rest long are is); len = refl }

pub Commit-begins : (rest : List ℕ) (tx : ℕ) → 4 ≤ length rest → AreBytes rest → tx < 2 ^ 32 → tx ≡ number_at 4 rest 0 → Begins (5 ∷ rest) (Commit tx) 5
Commit-begins rest tx long are below is =
    record { sound = below; front = ap (λ (l : List ℕ). 5 ∷ l) (field_and_rest 4 0 tx rest long are is); len = refl }

pub Back-begins : (rest : List ℕ) (tx n : ℕ) → 8 ≤ length rest → AreBytes rest → tx < 2 ^ 32 → n < 2 ^ 32 → tx ≡ number_at 4 rest 0 → n ≡ number_at 4 rest 4
    → Begins (4 ∷ rest) (Back tx n) 9
Back-begins rest tx n long are tx_below n_below tx_is n_is = record {
  sound = (tx_below, n_below);
  front = ap (λ (l : List ℕ). 4 ∷ l)
      (field_and_rest 4 0 tx rest (omega arith) are tx_is
      ∙ ap (λ (l : List ℕ). to_be_bytes w32 tx ++ l) (field_and_rest 4 4 n rest long are n_is)
      ∙ sym (append_assoc (to_be_bytes w32 tx) (to_be_bytes w32 n) (drop 8 rest)));
  len = refl;
}

-- the bytes from a place on are so many of them and the others
part_and_rest : (n at : ℕ) (bytes : List ℕ) → drop at bytes ≡ take n (drop at bytes) ++ drop (at + n) bytes
part_and_rest n at bytes = sym (take-append-drop n (drop at bytes)) ∙ ap (λ (l : List ℕ). take n (drop at bytes) ++ l) (drop-drop n at bytes)

pub Image-begins : (rest : List ℕ) (page : ℕ) (bytes : List ℕ) → 4100 ≤ length rest → AreBytes rest → page < 2 ^ 32 → page ≡ number_at 4 rest 0
    → bytes ≡ take 4096 (drop 4 rest) → length bytes ≡ 4096 → Begins (2 ∷ rest) (Image page bytes) 4101
Image-begins rest page bytes long are below page_is bytes_is bytes_long = record {
  sound = (below, bytes_long);
  front = ap (λ (l : List ℕ). 2 ∷ l)
      (field_and_rest 4 0 page rest (omega arith) are page_is
      ∙ ap (λ (l : List ℕ). to_be_bytes w32 page ++ l) (part_and_rest 4096 4 rest ∙ ap (λ (l : List ℕ). l ++ drop 4100 rest) (sym bytes_is))
      ∙ sym (append_assoc (to_be_bytes w32 page) bytes (drop 4100 rest)));
  len = omega (arith, length-image page bytes, bytes_long);
}

-- the parts of a change, one behind the other
change_parts : (c : Change) (rest : List ℕ) → spelling (Changed c) ++ rest
    ≡ 3 ∷ (to_be_bytes w32 c.tx ++ (to_be_bytes w16 c.owner ++ (to_be_bytes w32 c.page ++ (to_be_bytes w16 c.offset ++ (to_be_bytes w16 (length c.after) ++ (c.before ++ (c.after ++ rest)))))))
change_parts c rest = ap (λ (l : List ℕ). 3 ∷ l) (flat (to_be_bytes w32 c.tx) (to_be_bytes w16 c.owner) (to_be_bytes w32 c.page) (to_be_bytes w16 c.offset) (to_be_bytes w16 (length c.after)) c.before c.after rest)
  where
    flat : (t o p f l b a x : List ℕ) → t ++ o ++ p ++ f ++ l ++ b ++ a ++ x ≡ t ++ (o ++ (p ++ (f ++ (l ++ (b ++ (a ++ x))))))
    flat t o p f l b a x = simp append_assoc refl

-- a change whose bytes stand behind its numbers
module _ (rest : List ℕ) (tx owner page offset len : ℕ) where
  abbrev pub change_at : Change
  change_at = record { tx = tx; owner = owner; page = page; offset = offset; before = take len (drop 14 rest); after = take len (drop (14 + len) rest) }

  pub Change-begins : AreBytes rest → 14 + len + len ≤ length rest → 0 < len → offset + len ≤ 4096 → tx < 2 ^ 32 → owner < 2 ^ 16 → page < 2 ^ 32
      → tx ≡ number_at 4 rest 0 → owner ≡ number_at 2 rest 4 → page ≡ number_at 4 rest 6 → offset ≡ number_at 2 rest 10 → len ≡ number_at 2 rest 12
      → Begins (3 ∷ rest) (Changed change_at) (1 + (14 + len + len))
  Change-begins are long some within tx_below owner_below page_below tx_is owner_is page_is offset_is len_is = record {
    sound = record { tx = tx_below; owner = owner_below; page = page_below; some = omega (arith, after_long, some); same = before_long ∙ sym after_long; within = omega (arith, after_long, within) };
    front = ap (λ (l : List ℕ). 3 ∷ l)
        (field_and_rest 4 0 tx rest (omega arith) are tx_is
        ∙ ap (λ (l : List ℕ). to_be_bytes w32 tx ++ l) (field_and_rest 2 4 owner rest (omega arith) are owner_is
        ∙ ap (λ (l : List ℕ). to_be_bytes w16 owner ++ l) (field_and_rest 4 6 page rest (omega arith) are page_is
        ∙ ap (λ (l : List ℕ). to_be_bytes w32 page ++ l) (field_and_rest 2 10 offset rest (omega arith) are offset_is
        ∙ ap (λ (l : List ℕ). to_be_bytes w16 offset ++ l) (field_and_rest 2 12 len rest (omega arith) are len_is
        ∙ ap (λ (l : List ℕ). to_be_bytes w16 len ++ l) (part_and_rest len 14 rest
        ∙ ap (λ (l : List ℕ). take len (drop 14 rest) ++ l) (part_and_rest len (14 + len) rest)))))))
        ∙ ap (λ (n : ℕ). 3 ∷ (to_be_bytes w32 tx ++ (to_be_bytes w16 owner ++ (to_be_bytes w32 page ++ (to_be_bytes w16 offset ++ (to_be_bytes w16 n ++ (take len (drop 14 rest) ++ (take len (drop (14 + len) rest) ++ drop (14 + len + len) rest)))))))) (sym after_long)
        ∙ sym (change_parts change_at (drop (14 + len + len) rest))
        ∙ ap (λ (l : List ℕ). spelling (Changed change_at) ++ l) behind;
    len = omega (arith, length-change change_at, before_long, after_long);
  }
    where
      after_long : length (take len (drop (14 + len) rest)) ≡ len
      after_long = omega (arith, length-take len (drop (14 + len) rest), length-drop (14 + len) rest)

      before_long : length (take len (drop 14 rest)) ≡ len
      before_long = omega (arith, length-take len (drop 14 rest), length-drop 14 rest)

      behind : drop (14 + len + len) rest ≡ drop (1 + (14 + len + len)) (3 ∷ rest)
      behind = let e : 1 + (14 + len + len) ≡ suc (14 + len + len) = omega arith in rw e refl

-- ---- what is spelled is read
-- the fields of a change stand where they are read
pub record HasFields (rest : List ℕ) (c : Change) : Type 0 where
  pub offset : number_at 2 rest 10 ≡ c.offset
  pub len : number_at 2 rest 12 ≡ length c.after
  pub long : 14 + length c.after + length c.after ≤ length rest

pub change_fields : (rest : List ℕ) (c : Change) (n : ℕ) → Begins (3 ∷ rest) (Changed c) n → HasFields rest c
change_fields rest c n begins = record {
  offset = ap (λ (l : List ℕ). number_at 2 l 10) is
      ∙ number_at-behind 2 4 6 (to_be_bytes w32 c.tx) _ refl ∙ number_at-behind 2 2 4 (to_be_bytes w16 c.owner) _ refl ∙ number_at-behind 2 4 0 (to_be_bytes w32 c.page) _ refl
      ∙ number_at-front 2 c.offset _ (omega (arith, begins.sound.within, begins.sound.some));
  len = ap (λ (l : List ℕ). number_at 2 l 12) is
      ∙ number_at-behind 2 4 8 (to_be_bytes w32 c.tx) _ refl ∙ number_at-behind 2 2 6 (to_be_bytes w16 c.owner) _ refl ∙ number_at-behind 2 4 2 (to_be_bytes w32 c.page) _ refl
      ∙ number_at-behind 2 2 0 (to_be_bytes w16 c.offset) _ refl ∙ number_at-front 2 (length c.after) _ (omega (arith, begins.sound.within));
  long =
      let all : length (3 ∷ rest) ≡ length (spelling (Changed c)) + length (drop n (3 ∷ rest)) = ap (λ (l : List ℕ). length l) begins.front ∙ length-append (spelling (Changed c)) (drop n (3 ∷ rest)) in
      omega (arith, all, length-change c, begins.sound.same);
}
  where
    is : rest ≡ to_be_bytes w32 c.tx ++ (to_be_bytes w16 c.owner ++ (to_be_bytes w32 c.page ++ (to_be_bytes w16 c.offset ++ (to_be_bytes w16 (length c.after) ++ (c.before ++ (c.after ++ drop n (3 ∷ rest)))))))
    is = ap (λ (l : List ℕ). drop 1 l) (begins.front ∙ change_parts c (drop n (3 ∷ rest)))

-- Where the numbers read don't fit a change, no record is spelled.
pub Change-none : (rest : List ℕ) (offset len : ℕ) → offset ≡ number_at 2 rest 10 → len ≡ number_at 2 rest 12
    → ((0 < len) × (offset + len ≤ 4096) → 14 + len + len ≤ length rest → ⊥) → NoneBegins (3 ∷ rest)
Change-none rest offset len offset_is len_is unfit (Changed c) n begins =
    let fields = change_fields rest c n begins in
    let same = len_is ∙ fields.len in
    unfit (omega (arith, same, begins.sound.some), omega (arith, same, offset_is ∙ fields.offset, begins.sound.within)) (omega (arith, same, fields.long))
Change-none rest offset len offset_is len_is unfit (Begin tx) n begins = let e = begins.front in absurd (cc)
Change-none rest offset len offset_is len_is unfit (Image page bytes) n begins = let e = begins.front in absurd (cc)
Change-none rest offset len offset_is len_is unfit (Back tx kept) n begins = let e = begins.front in absurd (cc)
Change-none rest offset len offset_is len_is unfit (Commit tx) n begins = let e = begins.front in absurd (cc)

-- ---- no spelling begins another
same_changes : (c d : Change) → c.tx ≡ d.tx → c.owner ≡ d.owner → c.page ≡ d.page → c.offset ≡ d.offset → c.before ≡ d.before → c.after ≡ d.after → c ≡ d
same_changes c d tx owner page offset before after =
    λ i. record { tx = tx i; owner = owner i; page = page i; offset = offset i; before = before i; after = after i }

change-front : (c d : Change) (x y : List ℕ) → IsChange c → IsChange d → spelling (Changed c) ++ x ≡ spelling (Changed d) ++ y → (Changed c ≡ Changed d) × (x ≡ y)
change-front c d x y f g e =
    let is = ap (λ (l : List ℕ). drop 1 l) (sym (change_parts c x) ∙ e ∙ change_parts d y) in
    let tx = same_fronts 4 c.tx d.tx _ _ f.tx g.tx is in
    let owner = same_fronts 2 c.owner d.owner _ _ f.owner g.owner tx.1 in
    let page = same_fronts 4 c.page d.page _ _ f.page g.page owner.1 in
    let offset = same_fronts 2 c.offset d.offset _ _ (omega (arith, f.within)) (omega (arith, g.within)) page.1 in
    let len = same_fronts 2 (length c.after) (length d.after) _ _ (omega (arith, f.within)) (omega (arith, g.within)) offset.1 in
    let before = same_fronts_of c.before d.before _ _ (f.same ∙ len.0 ∙ sym g.same) len.1 in
    let after = same_fronts_of c.after d.after x y len.0 before.1 in
    (ap Changed (same_changes c d tx.0 owner.0 page.0 offset.0 before.0 after.0), after.1)

pub spelling-front : (r q : Record) (x y : List ℕ) → IsRecord r → IsRecord q → spelling r ++ x ≡ spelling q ++ y → (r ≡ q) × (x ≡ y)
spelling-front (Begin m) (Begin n) x y f g e = let tx = same_fronts 4 m n x y f g (cc) in (ap Begin tx.0, tx.1)
spelling-front (Image p a) (Image q b) x y f g e =
    let page = same_fronts 4 p q (a ++ x) (b ++ y) f.0 g.0 (cc (append_assoc (to_be_bytes w32 p) a x, append_assoc (to_be_bytes w32 q) b y)) in
    let bytes = same_fronts_of a b x y (f.1 ∙ sym g.1) page.1 in
    (λ i. Image (page.0 i) (bytes.0 i), bytes.1)
spelling-front (Changed c) (Changed d) x y f g e = change-front c d x y f g e
spelling-front (Back t m) (Back u n) x y f g e =
    let tx = same_fronts 4 t u (to_be_bytes w32 m ++ x) (to_be_bytes w32 n ++ y) f.0 g.0 (cc (append_assoc (to_be_bytes w32 t) (to_be_bytes w32 m) x)) in
    let kept = same_fronts 4 m n x y f.1 g.1 tx.1 in
    (λ i. Back (tx.0 i) (kept.0 i), kept.1)
spelling-front (Commit m) (Commit n) x y f g e = let tx = same_fronts 4 m n x y f g (cc) in (ap Commit tx.0, tx.1)
spelling-front _ _ x y f g e = absurd (cc)

-- bytes begin with one record
pub one_record : (bytes : List ℕ) (r q : Record) (m n : ℕ) → Begins bytes r m → Begins bytes q n → (r ≡ q) × (m ≡ n)
one_record bytes r q m n first second =
    let same = (spelling-front r q (drop m bytes) (drop n bytes) first.sound second.sound (sym first.front ∙ second.front)).0 in
    (same, first.len ∙ ap (λ (x : Record). length (spelling x)) same ∙ sym second.len)

-- so what is there is what was read
pub IsRead-only : (bytes : List ℕ) (result : Option (Rec × ℕ)) → IsRead bytes result → (r : Record) (n : ℕ) → Begins bytes r n → Answers result r n
IsRead-only bytes None none r n begins = none r n begins
IsRead-only bytes (Some (found, len)) read r n begins = one_record bytes (record_of found) r len n read begins

-- each takes some bytes
pub some_spelling : (r : Record) → 0 < length (spelling r)
some_spelling (Begin tx) = omega arith
some_spelling (Image page bytes) = omega (arith, length-image page bytes)
some_spelling (Changed c) = omega (arith, length-change c)
some_spelling (Back tx n) = omega arith
some_spelling (Commit tx) = omega arith

-- a record in front of any bytes
pub Begins-spelling : (r : Record) (behind : List ℕ) → IsRecord r → Begins (spelling r ++ behind) r (length (spelling r))
Begins-spelling r behind sound = record { sound = sound; front = ap (λ (l : List ℕ). spelling r ++ l) (sym (drop_at (spelling r) behind (length (spelling r)) refl)); len = refl }
