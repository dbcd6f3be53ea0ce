-- The boxes of the tests, whose pages are never formed.
use Rattle.std.proofs.Common.{◌≡◌, ℕ, Bool, true, false, cond, List, [], ◌∷◌, Option, Some, None, All, is_some, option_map, refl, sym, ap, subst, ◌∙◌, arith, ◌+◌, ◌==◌, ne_eqb}
use Rattle.std.specs.Ordering.{eq_by_cmp}
use Rattle.std.proofs.lemmas.Option.{same_Some}
use Rattle.std.proofs.lemmas.Cmp.{nat_list_cmp_total, eq_by_cmp_equiv}
use Rattle.std.proofs.lemmas.List.Elements.{All-nil}
use Rattle.sb_value.specs.declared.schema.Column.{Column}
use Rattle.sb_value.specs.Order.{bytes_cmp}
use Rattle.sb_rule.specs.declared.change.Change.{Change}
use Rattle.sb_rule.specs.declared.rule.Rule.TheVariants.{Foreign}
use Rattle.sb_forms.specs.Pages.{Pages}
use Rattle.sb_relation.specs.Db.{Name, Relation}
use Rattle.sb_relation.specs.Keys.{Picked, Coded, Counted, is_record_key, keying_of}
use Rattle.sb_relation.specs.Lawful.{AreRows, IsRow}
use Rattle.sb_ctx.specs.declared.instance.Instance.{Instance}
use Rattle.sb_ctx.specs.declared.calls.AttachCall.TheVariants as calls
use Rattle.sb_ctx.specs.declared.moves.Move.{Move}
use Rattle.sb_ctx.specs.declared.moves.Move.TheVariants.{Done, Need, Fresh, Find, Broken, NoMemory}
use Rattle.sb_ctx.specs.AttachAnswers.{Answers as AnswersFor, AsksFor as AsksForAttached, Changes as ChangesFor, IsBroken as IsBrokenFor, MayEnd as MayEndFor}
use Rattle.sb_ctx.specs.MethodAnswers.{AsksFor}
use Rattle.sb_ctx.proofs.BoundLaws.{IsBoundlessFor, Spends-boundless_for}
use Rattle.sb_ctx.specs.Attachment.{Attachment, IsOwned, keeps_pages, IsInstance as IsAttached}
use Rattle.sb_ctx.specs.View.{HeldPage, View, HeldPages, held_at, given_at, page_of, dropped, stored, with_found, IsClean}
use Rattle.sb_value.specs.declared.value.Value.{Value}
use Rattle.sb_ctx.specs.declared.held.Found.{Found}
use Rattle.sb_ctx.proofs.DrivingLaws.{HoldsPart-with_found, IsClean-with_found}
use Rattle.sb_memory.specs.AttachCalls.{HandsUp}
use Rattle.sb_memory.specs.Contents.{Contents, pages_of, slots}
use Rattle.sb_drive.specs.Spaces.{HoldsOf}
use Rattle.sb_drive.specs.Turns.{OnFind}
use Rattle.sb_memory.specs.Examples.{IsPlain, IsMade}

-- ---- an attachment on a relation without columns
abbrev bare : Relation
bare = record { method = 1000; schema = []; key = []; rows = []; attachments = [] }

no_rows : (schema : List Column) → AreRows schema []
no_rows schema = record { rising = tt; keys = All-nil (λ row. is_record_key row.0 ≡ true); each = All-nil (λ row. IsRow schema row.1); few = omega arith }

pub IsAttached-plain : (a : Attachment) (inst : Instance) → a.rules.code ≡ 1000 → a.rules.fits [] inst.desc ≡ true → IsPlain inst → IsAttached a inst
IsAttached-plain a inst code fits plain = record {
  code = plain.code ∙ sym code;
  key = plain.key;
  owned = subst (λ n. IsOwned (keeps_pages n) inst) (sym code) plain.owned;
  rule = Foreign a.rules.code inst.desc;
  db = (inst.relation, bare) ∷ [];
  stands = record {
    spelled = record { coded = refl; spelled = refl; storable = tt; limited = omega (arith, code) };
    relation = bare;
    there = ap (λ (b : Bool). cond b (Some bare) None) ((eq_by_cmp_equiv nat_list_cmp_total).refl inst.relation);
    schema = sym plain.schema;
    lawful = λ name r there. lawful name r (eq_by_cmp bytes_cmp name inst.relation) there;
    joins = tt;
    may = record { there = refl; named = refl; fits = rw plain.schema fits };
  };
}
  where
    lawful : (name : Name) (r : Relation) (b : Bool) → cond b (Some bare) None ≡ Some r → AreRows r.schema r.rows
    lawful name r true there = subst (λ (q : Relation). AreRows q.schema q.rows) (same_Some bare r there) (no_rows [])
    lawful name r false there = cc

-- a code of others picks its keys
pub Picked-above : (n : ℕ) → keying_of (1000 + n) ≡ Picked
Picked-above n =
    ap (λ b. cond b Coded (cond (1000 + n == 3) Counted Picked)) (ne_eqb (1000 + n) 2 (λ e. omega (arith, e)))
    ∙ ap (λ b. cond b Counted Picked) (ne_eqb (1000 + n) 3 (λ e. omega (arith, e)))

-- a page that is held may be called broken
pub is_some-given : (c : View) (n : ℕ) (bytes : List ℕ) → page_of c n ≡ Some bytes → is_some (given_at c n) ≡ true
is_some-given c n bytes is = by (held_at c n) is
  where
    by : (o : Option HeldPage) → option_map (λ (h : HeldPage). h.now) o ≡ Some bytes → is_some (option_map (λ (h : HeldPage). h.given) o) ≡ true
    by None is = cc
    by (Some h) is = refl

-- ---- calls over pages that are never formed
none_some : {X : Type 0} (o : Option X) (x : X) → o ≡ None → o ≡ Some x → ⊥
none_some o x none some = cc

-- what a box of the tests may call broken
abbrev MayBreakHeld : (Instance → HeldPages → ℕ → Bool) → Type 0
MayBreakHeld may_break = (inst : Instance) (held : HeldPages) (n : ℕ) → may_break inst held n ≡ is_some (held n)

-- what is made at a change
pub Changes-made_for : (a : Attachment) (inst : Instance) (change : Change) (old new : View) (move : Move) → ((P : Pages) → a.content inst P ≡ None) → MayBreakHeld a.may_break → IsBoundlessFor a →
    dropped new ≡ old → AsksFor new move → IsMade old move → ChangesFor a inst (calls.Changed change) old new move
Changes-made_for a inst change old new move none breaks is given asks made = record {
  given = given;
  asks = asks_for move asks made;
  broken = broken move made;
  ends = ends move made;
  answers = λ P part. answers P move made;
  spends = λ ctx P part. Spends-boundless_for a inst (calls.Changed change) P old new move is given ctx part;
}
  where
    asks_for : (move : Move) → AsksFor new move → IsMade old move → AsksForAttached new move
    asks_for (Find relation columns values) asks made = absurd made
    asks_for move asks made = asks

    broken : (move : Move) → IsMade old move → IsBrokenFor a inst old move
    broken (Broken n) made = breaks inst (given_at old) n ∙ made
    broken move made = tt

    ends : (move : Move) → IsMade old move → MayEndFor (calls.Changed change) move
    ends Done made = tt
    ends (Need n) made = tt
    ends Fresh made = tt
    ends (Broken n) made = tt
    ends NoMemory made = tt
    ends move made = absurd made

    answers : (P : Pages) (move : Move) → IsMade old move → AnswersFor a inst (calls.Changed change) old P (stored new P) move
    answers P Done made = λ rule db stands buckets before. absurd (none_some (a.content inst P) _ (none P) before.content)
    answers P (Need n) made = tt
    answers P Fresh made = tt
    answers P (Broken n) made = tt
    answers P NoMemory made = tt
    answers P move made = absurd made

-- ---- a find that is handed up and answered with no rows
pub found-answered : (owner : ℕ) (before after : Contents) (c new : View) (move : Move) (relation : Name) (columns : List Name) (values : List Value) (f : Found) → move ≡ Find relation columns values →
    OnFind move (HandsUp owner before after c move) → f.keys ≡ [] → new ≡ with_found f c → IsClean new × HoldsOf (slots after.now) owner new
found-answered owner before after c new move relation columns values f is handed none made = (
  subst IsClean (sym made) (IsClean-with_found c f (subst (λ keys. All (λ k. is_record_key k ≡ true) keys) (sym none) (All-nil (λ k. is_record_key k ≡ true))) up.clean),
  subst (λ (v : View). HoldsOf (slots after.now) owner v) (sym made) (record { part = HoldsPart-with_found c (pages_of after.now owner) f up.holds.part; free = up.holds.free }),
)
  where
    of : (m : Move) → m ≡ Find relation columns values → OnFind m (HandsUp owner before after c move) → HandsUp owner before after c move
    of (Find r cs vs) is so = so
    of m is so = cc

    up : HandsUp owner before after c move
    up = of move is handed
