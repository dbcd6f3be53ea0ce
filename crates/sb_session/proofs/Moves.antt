-- What becomes of a session whose boxes become live or spare.
use Rattle.std.proofs.Common.{◌≡◌, ℕ, ◌≤◌, ◌==◌, slice_index_or, Bool, true, false, List, [], All, Option, Some, None, is_some, refl, sym, ap, ◌∙◌, subst, arith}
use Rattle.std.proofs.lemmas.Bool.{false≢true}
use Rattle.std.proofs.Math.Bool.{or-false}
use Rattle.std.proofs.lemmas.List.Elements.{All-nil}
use Rattle.std.specs.List.{find}
use Rattle.sb_ctx.specs.Method.{Method}
use Rattle.sb_ctx.specs.Attachment.{Attachment}
use Rattle.sb_disk.specs.Disk.{Story}
use Rattle.sb_rule.specs.Spelling.{rule_code}
use Rattle.sb_relation.specs.Db.{Db, schema_at}
use Rattle.sb_relation.specs.Fits.{MayStand}
use Rattle.sb_relation.specs.Foreign.{AttachRules}
use Rattle.sb_fold.specs.Fold.{attachments_at}
use Rattle.sb_fold.specs.declared.refusal.Refusal.TheVariants as refusal
use Rattle.sb_plain.specs.declared.command.Command.{Command}
use Rattle.sb_plain.specs.declared.command.Command.TheVariants as command
use Rattle.sb_plain.specs.declared.reply.Reply.{Reply}
use Rattle.sb_plain.specs.declared.reply.Reply.TheVariants.{Refused}
use Rattle.sb_plain.specs.Licences.{may_want_memory}
use Rattle.sb_plain.specs.Step.{Steps}
use Rattle.sb_plain.specs.Refusing.{first_use}
use Rattle.sb_plain.specs.State.{Codes, State, Transaction as PlainTransaction, codes_of, committed, has_code, is_inside, view, with_code, without_code}
use Rattle.sb_plain.specs.Step.{ok}
use Rattle.sb_registry.specs.Boxes.{Meanings, repeated_in}
use Rattle.sb_registry.specs.Codes.{Goes}
use Rattle.sb_drive.specs.Slots.{Slots}
use Rattle.sb_drive.specs.Spaces.{Wanted}
use Rattle.sb_transactions.specs.Place.{Place}
use Rattle.sb_transactions.specs.Standing.{Keeps as KeepsPages}
use Rattle.sb_transactions.specs.Tables.{Kept, db_of}
use Rattle.sb_transactions.specs.OpenRelation.{OpenRelation}
use Rattle.sb_transactions.specs.Opened.{IsDurable, IsOpen}
use Rattle.sb_txn.specs.Clauses.{IsReady}
use Rattle.sb_txn.specs.Parts.{Parts, parts}
use Rattle.sb_transactions.specs.Space.{Space}
use Rattle.sb_transactions.specs.Table.{slots_in}
use Rattle.sb_transactions.specs.Working.{extensions_of}
use Rattle.sb_transactions.specs.Transactions.{Rests}
use Rattle.sb_vectors.specs.Vectors.{Registers, Retires, codes_in, has_box, live_codes, spare_codes}
use Rattle.sb_vectors.proofs.BoxLemmas.{has_box-codes}
use Rattle.sb_vectors.proofs.LawLemmas.{registering_moves, registering_stays, retiring_moves, retiring_stays}
use Rattle.sb_session.specs.declared.session.Open.{Open}
use Rattle.sb_session.specs.declared.session.Session.{Session}
use Rattle.sb_session.specs.Sessions.{CanGoOn, CanRun, IsFor, IsOpenFor, KeepsSession, parts_of, sizes_of}
use Rattle.sb_session.specs.Ends.{IsStep, ends_with}
use Rattle.sb_transactions.proofs.StayLemmas.{MayStayOpen-none}
use Rattle.sb_session.proofs.Carried.{Carried, Carried-given, Carried-memory, IsSame, SameOpen-none}
use Rattle.sb_session.proofs.Commands.{outside_for}
use Rattle.sb_session.proofs.MoveBoxes.{SameRules, SameRules-same, StillLive, StillLive-registers, StillLive-retires_attachment, StillLive-retires_method, Keeps-still, unused_attachment, unused_method}
use Rattle.sb_session.proofs.MoveLists.{found_some}
use Rattle.sb_session.proofs.SameBoxes.{registered-same, retired-same}
use Rattle.sb_session.proofs.StepLemmas.{Steps-no_live, Steps-no_spare, Steps-register, Steps-retire, at_fields}

-- ---- pages that stand for a database
Rests-still : (m n : Meanings) (root : ℕ) (want : Wanted) (db : Db) (p : Parts) → SameRules m n
    → ((kept : List Kept) → db ≡ db_of kept → KeepsPages m IsDurable root (slots_in p.store.pool.geometry.pages want) [] kept → StillLive m n kept)
    → Rests m root want db p → Rests n root want db p
Rests-still m n root want db p same still rests =
    let of = rests.committed in
    record {
      has = rests.has;
      committed = record {
        formed = of.formed;
        kept = of.kept;
        is = of.is;
        keeps = Keeps-still m n root (slots_in p.store.pool.geometry.pages want) [] of.kept (still of.kept of.is of.keeps) of.keeps;
        settled = record {
          lasting = of.settled.lasting;
          mirrored = of.settled.mirrored;
          paired = of.settled.paired;
          apart = of.settled.apart;
          complete = of.settled.complete;
          rules = λ name i d h. let a = slice_index_or (attachments_at (db_of of.kept) name) i d in
              subst (λ (box : Option AttachRules). MayStand box (db_of of.kept) (schema_at (db_of of.kept) name) a.rule) (sym (same (rule_code a.rule))) (of.settled.rules name i d h);
          fit = of.settled.fit;
        };
      };
    }

-- ---- codes
-- the codes of a kind
code_lists : (m : Meanings) (method : Bool) → (codes_of method (live_codes m) ≡ codes_in m true method) × (codes_of method (spare_codes m) ≡ codes_in m false method)
code_lists m true = (refl, refl)
code_lists m false = (refl, refl)

spare_known : (m : Meanings) (method : Bool) (code : ℕ) (b : Bool) → has_box m false method code ≡ b → has_code (codes_of method (spare_codes m)) code ≡ b
spare_known m method code b is = ap (λ (codes : List ℕ). has_code codes code) (code_lists m method).1 ∙ sym (has_box-codes m false method code) ∙ is

live_known : (m : Meanings) (method : Bool) (code : ℕ) (b : Bool) → has_box m true method code ≡ b → has_code (codes_of method (live_codes m)) code ≡ b
live_known m method code b is = ap (λ (codes : List ℕ). has_code codes code) (code_lists m method).0 ∙ sym (has_box-codes m true method code) ∙ is

stood_in : {A : Type 0} (p : A → Bool) (from to from_after to_after : List A) → Goes p from to from_after to_after → is_some (find p from) ≡ true
stood_in {A} p from to from_after to_after goes = ap (λ (xs : List A). is_some (find p xs)) goes.stood ∙ found_some p goes.front goes.box goes.back goes.code

pub stood_spare : (m n : Meanings) (method : Bool) (code : ℕ) → Registers method code true m n → has_box m false method code ≡ true
stood_spare m n true code is = stood_in (λ (a : Method). a.rules.code == code) m.spare_methods m.methods n.spare_methods n.methods is.0
stood_spare m n false code is = stood_in (λ (a : Attachment). a.rules.code == code) m.spare_attachments m.attachments n.spare_attachments n.attachments is.0

stood_live : (m n : Meanings) (method : Bool) (code : ℕ) → Retires method code true m n → has_box m true method code ≡ true
stood_live m n true code is = stood_in (λ (a : Method). a.rules.code == code) m.methods m.spare_methods n.methods n.spare_methods is.0
stood_live m n false code is = stood_in (λ (a : Attachment). a.rules.code == code) m.attachments m.spare_attachments n.attachments n.spare_attachments is.0

-- boxes that nothing uses may go
retired_still : (m n : Meanings) (method : Bool) (code root : ℕ) (s : Slots) (kept : List Kept) → Retires method code true m n → KeepsPages m IsDurable root s [] kept
    → first_use (db_of kept) (command.Retire method code) ≡ None → StillLive m n kept
retired_still m n true code root s kept is keeps unused = StillLive-retires_method code m n kept is (unused_method code m root s [] kept keeps unused)
retired_still m n false code root s kept is keeps unused = StillLive-retires_attachment code m n kept is (unused_attachment code m root s [] kept keeps unused)

module _ {B D : Type 0} (meanings : B → Meanings) (told : D → Option Story) (len faults : D → ℕ) (d : D) (x y : Session B) (runs : CanRun meanings told len d x) (up : x.down ≡ false)
    (none : x.open ≡ None) (space : y.space ≡ x.space) (place : y.place ≡ x.place) (down : y.down ≡ x.down) (opened : y.open ≡ x.open) (method : Bool) (code : ℕ) where
  abbrev m : Meanings
  m = meanings x.boxes

  abbrev n : Meanings
  n = meanings y.boxes

  abbrev p : Parts
  p = parts_of told len d x

  outside_state : (want : Wanted) (s : State) → IsFor meanings told len want s d x → is_inside s ≡ false
  outside_state want s for = ap is_some (outside_for meanings told len faults d x runs up none want s for).none

  -- ---- what goes on
  pub CanRun-moved : repeated_in n ≡ None → y.opened.items ≡ [] → CanRun meanings told len d y
  CanRun-moved unique closed = record {
    ready = subst (λ (a : Space). IsReady (parts told len d a.store)) (sym space) runs.ready;
    few = subst (λ (a : Space). a.store.pool.geometry.pages ≤ 65536) (sym space) runs.few;
    owner = ap (λ (a : Place). a.owner) place ∙ runs.owner;
    unique = unique;
    opened = λ on. subst (λ (ones : List OpenRelation). All (IsOpen n) ones) (sym closed) (All-nil (IsOpen n));
    up = λ on. subst (λ (a : Space). a.store.book.down ≡ false) (sym space) (runs.up up);
    goes = λ on. subst (λ (a : Space). CanGoOn n y.place (parts told len d a.store) y.open) (sym space) (subst (λ (o : Option Open). CanGoOn n y.place p o) (sym (opened ∙ none))
        (out (subst (λ (o : Option Open). CanGoOn m x.place p o) none (runs.goes up))));
  }
    where
      out : CanGoOn (meanings x.boxes) x.place (parts_of told len d x) None → CanGoOn (meanings y.boxes) y.place (parts_of told len d x) None
      out is = is

  pub KeepsSession-moved : KeepsSession len faults d d x y ok
  KeepsSession-moved = record {
    size = refl;
    later = omega arith;
    geometry = ap (λ (a : Space). a.store.pool.geometry) space;
    place = place;
    down = down ∙ sym (or-false x.down);
    fault = λ is. absurd (false≢true (ap (λ (r : Reply). ends_with r) is));
    ended = λ on. absurd (false≢true (sym up ∙ on));
  }

  IsFor-moved : (want : Wanted) (s t : State) → IsFor meanings told len want s d x → committed t ≡ committed s → t.transaction ≡ None → t.down ≡ false → t.live ≡ live_codes n → t.spare ≡ spare_codes n
      → Rests n x.place.root want (committed s) p → y.opened.items ≡ [] → IsFor meanings told len want t d y
  IsFor-moved want s t for same outside on live spare rests closed = record {
    down = down ∙ up ∙ sym on;
    live = live;
    spare = spare;
    stands = λ is.
        subst (λ (a : Space). IsOpenFor n y.place want (committed t) (parts told len d a.store) y.open t.transaction) (sym space)
        (subst (λ (a : Place). IsOpenFor n a want (committed t) p y.open t.transaction) (sym place)
        (subst (λ (o : Option Open). IsOpenFor n x.place want (committed t) p o t.transaction) (sym (opened ∙ none))
        (subst (λ (o : Option PlainTransaction). IsOpenFor n x.place want (committed t) p None o) (sym outside)
        (subst (λ (db : Db). Rests n x.place.root want db p) (sym same) rests))));
    opened = λ is. MayStayOpen-none n y.place.root (sizes_of y).pages want y.opened.items closed;
  }

  rests_before : (want : Wanted) (s : State) → IsFor meanings told len want s d x → Rests m x.place.root want (committed s) p
  rests_before want s for = (outside_for meanings told len faults d x runs up none want s for).rests

  -- ---- a box that became live
  abbrev registered : State → State
  registered s = record s { live = with_code method code s.live; spare = without_code method code s.spare; transaction = None; down = false }

  pub register-step : y.opened.items ≡ [] → repeated_in n ≡ None → Registers method code true m n → (want : Wanted) (s : State) → IsFor meanings told len want s d x
      → IsStep (λ t. IsFor meanings told len want t d y) (extensions_of m) s (command.Register method code) ok
  register-step closed still is want s for =
      let law = registering_moves method code m n runs.unique is in
      record {
        after = registered s;
        steps = at_fields (λ (s : State). has_code (codes_of method s.spare) code ≡ true → Steps (extensions_of m) s (command.Register method code) ok (registered s)) s None false
            (outside_for meanings told len faults d x runs up none want s for).none (sym for.down ∙ up)
            (λ known. Steps-register (extensions_of m) (record s { transaction = None; down = false }) refl method code refl known)
            (ap (λ (codes : Codes). has_code (codes_of method codes) code) for.spare ∙ spare_known m method code true (stood_spare m n method code is));
        stands = IsFor-moved want s (registered s) for refl refl refl (ap (with_code method code) for.live ∙ sym law.0) (ap (without_code method code) for.spare ∙ sym law.1)
            (Rests-still m n x.place.root want (committed s) p (SameRules-same m n (registered-same method true code m n runs.unique still is)) (λ kept same keeps. StillLive-registers code m n kept method is) (rests_before want s for)) closed;
      }

  -- ---- one that became spare
  abbrev retired : State → State
  retired s = record s { live = without_code method code s.live; spare = with_code method code s.spare; transaction = None; down = false }

  pub retire-step : y.opened.items ≡ [] → repeated_in n ≡ None → Retires method code true m n → (want : Wanted) (s : State) → IsFor meanings told len want s d x → first_use (view s) (command.Retire method code) ≡ None
      → IsStep (λ t. IsFor meanings told len want t d y) (extensions_of m) s (command.Retire method code) ok
  retire-step closed still is want s for unused =
      let law = retiring_moves method code m n runs.unique is in
      let out = outside_for meanings told len faults d x runs up none want s for in
      let seen : first_use (committed s) (command.Retire method code) ≡ None =
      sym (ap (λ (t : Option PlainTransaction). first_use (elim t as (λ c. Db) [ None ↦ committed s | Some t ↦ t.db ]) (command.Retire method code)) out.none) ∙ unused in
      record {
        after = retired s;
        steps = at_fields (λ (s : State). has_code (codes_of method s.live) code ≡ true → first_use (committed s) (command.Retire method code) ≡ None
            → Steps (extensions_of m) s (command.Retire method code) ok (retired s)) s None false out.none (sym for.down ∙ up)
            (λ known free. Steps-retire (extensions_of m) (record s { transaction = None; down = false }) refl method code refl known free)
            (ap (λ (codes : Codes). has_code (codes_of method codes) code) for.live ∙ live_known m method code true (stood_live m n method code is)) seen;
        stands = IsFor-moved want s (retired s) for refl refl refl (ap (without_code method code) for.live ∙ sym law.0) (ap (with_code method code) for.spare ∙ sym law.1)
            (Rests-still m n x.place.root want (committed s) p (SameRules-same m n (retired-same method true code m n runs.unique still is))
            (λ kept same keeps. retired_still m n method code x.place.root (slots_in p.store.pool.geometry.pages want) kept is keeps
            (subst (λ (db : Db). first_use db (command.Retire method code) ≡ None) same seen))
            (rests_before want s for)) closed;
      }

  -- ---- nothing moved
  -- the boxes mean the same
  pub IsSame-boxes : n ≡ m → y.opened.items ≡ x.opened.items → IsSame meanings x y
  IsSame-boxes same ones = record { boxes = same; space = space; place = place; down = down; opened = SameOpen-none x.open y.open none (opened ∙ none); opened_same = ones }

  not_down : x.down ≡ true → y ≡ x
  not_down on = absurd (false≢true (sym up ∙ on))

  pub Carried-not_spare : y.opened.items ≡ x.opened.items → Registers method code false m n → Carried meanings told len faults (command.Register method code) d d x y (Refused (refusal.NoExtension code))
  Carried-not_spare ones is =
      let law = registering_stays method code m n is in
      Carried-given meanings told len faults (command.Register method code) d x y (IsSame-boxes law.1 ones) not_down runs (refusal.NoExtension code) refl
      (λ want s for. Steps-no_spare (extensions_of m) s (sym for.down ∙ up) method code (outside_state want s for)
      (ap (λ (codes : Codes). has_code (codes_of method codes) code) for.spare ∙ spare_known m method code false law.0))

  pub Carried-not_live : y.opened.items ≡ x.opened.items → Retires method code false m n → Carried meanings told len faults (command.Retire method code) d d x y (Refused (refusal.NoExtension code))
  Carried-not_live ones is =
      let law = retiring_stays method code m n is in
      Carried-given meanings told len faults (command.Retire method code) d x y (IsSame-boxes law.1 ones) not_down runs (refusal.NoExtension code) refl
      (λ want s for. Steps-no_live (extensions_of m) s (sym for.down ∙ up) method code (outside_state want s for)
      (ap (λ (codes : Codes). has_code (codes_of method codes) code) for.live ∙ live_known m method code false law.0))

  pub Carried-no_memory : (c : Command) → n ≡ m → y.opened.items ≡ x.opened.items → ((s : State) → may_want_memory s c ≡ true) → Carried meanings told len faults c d d x y (Refused refusal.NoMemory)
  Carried-no_memory c same ones may = Carried-memory meanings told len faults c d x y (IsSame-boxes same ones) not_down runs up (λ want s for. may s)
