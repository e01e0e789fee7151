-- What the lines of a complete journal tell.
use Rattle.std.proofs.Common.{◌≡◌, ◌∙◌, sym, ap, subst, refl, ℕ, ℤ, ◌<◌}
use Rattle.std.proofs.Common.{◌≤◌, Bool, true, false, cond, List, [], ◌∷◌, ◌++◌, length}
use Rattle.std.proofs.Common.{Option, Some, None, arith, inl, inr}
use Rattle.std.specs.List.{Contains, flat_map}
use Rattle.std.proofs.lemmas.Bool.{cases_eq, cond-true}
use Rattle.std.proofs.lemmas.List.{map-append}
use Rattle.std.proofs.lemmas.List.Elements.{Contains-push}
use Rattle.pm_base.specs.Cuts.{Cut}
use Rattle.pm_bid.specs.Bids.{demand_at}
use Rattle.pm_market.specs.Lists.{Lists, is_leaf, end_count, IsLeaf, Lawful}
use Rattle.pm_market.specs.Lists as market
use Rattle.pm_market.specs.State.{State, SameOn, start, last_index, last_of, clearings, cleared_cut}
use Rattle.pm_market.specs.Moves.{Legal, LegalFrom, LegalJournal, Idle, step, after, after_from}
use Rattle.pm_market.specs.Sound.{Sound}
use Rattle.pm_market.specs.Held.{holds_price, holding, holding_after, line_of, lines_from}
use Rattle.pm_market.specs.declared.moves.Move.{Move}
use Rattle.pm_market.specs.declared.moves.Move.TheVariants.{Change, Learn, Publish, Clear, Pass, Close}
use Rattle.pm_market.specs.declared.journal.Line.{Line}
use Rattle.pm_market.proofs.Tree.{leaf_node, leaf_of_itself, leaf_of_parts}
use Rattle.pm_market.proofs.Cuts.{part_leaf, newest_leaf, pushed_same}
use Rattle.pm_laws.proofs.Facts.{last_push, clearing_part}
use Rattle.pm_laws.proofs.Kept.{sound_step, sound_after}
use Rattle.pm_laws.proofs.Order.{after_append, legal_parts, cleared_stays, never_back}
use Rattle.pm_laws.proofs.Held.{holder_included, quiet_holds}
use Rattle.pm_laws.proofs.Quiet.{quiet_counts, quiet_passed}
use Rattle.pm_plan.specs.Plans.{PlanData, change_count, is_member, phases, end_cut}
use Rattle.pm_plan.specs.Kept.{IsPlan}
use Rattle.pm_plan.specs.Auction.{power}
use Rattle.pm_plan.specs.States.{all_ends}
use Rattle.pm_plan.specs.Market.{plan_lists}
use Rattle.pm_plan.proofs.MarketLists.{lawful, phases-is, end-is, changes-is, is_member-is}
use Rattle.pm_offer.specs.Offers.{device_demand, local_step_at}
use Rattle.pm_offer.specs.LocalSteps.{IsAuctionStep}
use Rattle.pm_offer.proofs.Steps.{demand_is}
use Rattle.pm_offer.proofs.EndLines.{step_is}
use Rattle.pm_offer.proofs.Laws.{powers_group}
use Rattle.pm_offer.proofs.GroupNodes.{nodes_are}
use Rattle.pm_offer.proofs.Alike.{local_alike}
use Rattle.pm_report.specs.Report.{report_text}
use Rattle.pm_report.specs.Trace.{trace_text, move_line, moves_line}
use Rattle.pm_cluster.specs.Acts.{moves_of, NeverGoesBack}
use Rattle.pm_board.specs.Boards.{IsJournal}
use Rattle.pm_answer.specs.Answers.{IsCompleteJournal}
use Rattle.pm_answer.proofs.JournalLines.{traces_tell}
use Rattle.pm_headline.proofs.Reports.{report_is, report_only}
use Rattle.pm_headline.specs.Traces.{state_after_lines, clearing_cut, pass_line, close_line, HoldsItsOwn, HoldsOver, AllHold}
use Rattle.pm_headline.specs.Traces.{NobodyGoesBack, IsMarketRun, TellsRun}

-- ---- lines and moves

-- the moves of the lines before and from one on
moves_split : (front rest : List Line) → moves_of (front ++ rest) ≡ moves_of front ++ moves_of rest
moves_split front rest = map-append (λ (l : Line). l.what) front rest

-- a line of the lines that are told is that of its move, in the state after those before it
told_at : (lists : Lists) (place : Cut → ℕ → ℕ) (front rest : List Line) (l : Line) (s : State) →
    front ++ l ∷ rest ≡ lines_from lists place s (moves_of (front ++ l ∷ rest)) →
    l ≡ line_of lists place (after_from lists s (moves_of front)) l.what
told_at lists place [] rest l s told =
    let here : l ≡ line_of lists place s l.what = cc told in
    here
told_at lists place (m ∷ front) rest l s told =
    let later : front ++ l ∷ rest ≡ lines_from lists place (step lists s m.what) (moves_of (front ++ l ∷ rest)) = cc told in
    told_at lists place front rest l (step lists s m.what) later

-- of a held price that is told, that it is held, and what it is
held_parts : (leaf holds : Bool) (there price : ℕ × ℕ) → Some price ≡ cond leaf (cond holds (Some there) None) None →
    (leaf ≡ true) × (holds ≡ true) × (price ≡ there)
held_parts true true there price is = let same : price ≡ there = cc is in (refl, refl, same)
held_parts true false there price is = absurd (cc is)
held_parts false holds there price is = absurd (cc is)

-- each phase between what is closed before some legal moves and after them is closed by one of them
closed_by : (lists : Lists) (p : ℕ) (journal : List Line) (s : State) → LegalFrom lists s (moves_of journal) → s.closed < p →
    p ≤ (after_from lists s (moves_of journal)).closed →
    (front : List Line) × ((rest : List Line) × ((price : Option (ℕ × ℕ)) × (journal ≡ front ++ close_line p price ∷ rest)))
closed_by lists p [] s legal low high = absurd (omega arith)
closed_by lists p (l ∷ more) s legal low high =
    by_move (λ still. closed_by lists p more (step lists s l.what) legal.1 still high) l.what l.held refl
  where
    onward : ((front : List Line) × ((rest : List Line) × ((price : Option (ℕ × ℕ)) × (more ≡ front ++ close_line p price ∷ rest)))) →
        (front : List Line) × ((rest : List Line) × ((price : Option (ℕ × ℕ)) × (l ∷ more ≡ front ++ close_line p price ∷ rest)))
    onward found = (l ∷ found.0, (found.1.0, (found.1.1.0, ap (λ (ls : List Line). l ∷ ls) found.1.1.1)))

    by_move : ((step lists s l.what).closed < p →
        (front : List Line) × ((rest : List Line) × ((price : Option (ℕ × ℕ)) × (more ≡ front ++ close_line p price ∷ rest)))) →
        (m : Move) (price : Option (ℕ × ℕ)) → l ≡ record { what = m; held = price } →
        (front : List Line) × ((rest : List Line) × ((price : Option (ℕ × ℕ)) × (l ∷ more ≡ front ++ close_line p price ∷ rest)))
    by_move later (Change d n) price is = onward (later (omega (arith, ap (λ (k : Line). (step lists s k.what).closed) is)))
    by_move later (Learn x n) price is = onward (later (omega (arith, ap (λ (k : Line). (step lists s k.what).closed) is)))
    by_move later (Publish c n) price is = onward (later (omega (arith, ap (λ (k : Line). (step lists s k.what).closed) is)))
    by_move later (Clear j) price is = onward (later (omega (arith, ap (λ (k : Line). (step lists s k.what).closed) is)))
    by_move later (Pass x j) price is = onward (later (omega (arith, ap (λ (k : Line). (step lists s k.what).closed) is)))
    by_move later (Close q) price is = elim (cases_eq q p) [
      | inl e ↦ ([], (more, (price, ap (λ (k : Line). k ∷ more) (is ∙ ap (λ (i : ℕ). close_line i price) e))))
      | inr ne ↦
          let here : Legal lists s (Close q) = subst (λ (k : Line). Legal lists s k.what) is legal.0 in
          onward (later (omega (arith, ap (λ (k : Line). (step lists s k.what).closed) is, here.0)))
    ]

module _ (plan : PlanData) (is_plan : IsPlan plan) where
  abbrev lists : Lists
  lists = plan_lists plan

  law : Lawful lists
  law = lawful plan is_plan

  inside : (d : ℕ) → IsLeaf lists d → (1 ≤ d) × (d ≤ length plan.nodes)
  inside d leaf = let here = leaf_node lists law d leaf in (here.0, omega (arith, here.1, nodes_are plan is_plan))

  -- a clearing has no more changes of a device than it makes
  cleared_few : (s : State) → Sound lists s → (d j : ℕ) → IsLeaf lists d → j ≤ clearings s → cleared_cut s j d ≤ change_count plan d
  cleared_few s sound d j leaf made =
      let here = leaf_node lists law d leaf in
      let part_is = clearing_part lists law s sound d j here made in
      omega (
        arith,
        part_is.1,
        part_is.2 d (leaf_of_itself lists law d leaf),
        part_leaf lists s.published d part_is.0 d leaf,
        sound.learnt_within d here,
        newest_leaf lists s.counts s.published d leaf,
        sound.counts_within d leaf,
        changes-is plan d (inside d leaf).0 (inside d leaf).1,
      )

  -- ---- in an idle state, where the changes of the phases up to p are made

  all_hold : (s : State) (p : ℕ) → Sound lists s → Idle lists s → p ≤ phases plan →
      ((d : ℕ) → IsLeaf lists d → s.counts d ≡ end_count lists p d) → AllHold plan s p
  all_hold s p sound idle few counts = record { made = made; hold = hold }
    where
      made : (d : ℕ) → IsLeaf lists d → s.counts d ≡ end_cut plan p d
      made d leaf = counts d leaf ∙ end-is plan p d (inside d leaf).0 (inside d leaf).1 few is_plan.in_phases

      same : SameOn lists 0 (cleared_cut s (clearings s)) (end_cut plan p)
      same d below = let leaf = (leaf_of_parts lists 0 d below).0 in quiet_counts lists law s sound idle d leaf ∙ made d leaf

      holds : (d : ℕ) → IsLeaf lists d → is_member plan d (end_cut plan p d) ≡ true →
          holding lists (local_step_at plan) s d ≡ Some (local_step_at plan (end_cut plan p) d, end_cut plan p d)
      holds d leaf member =
          let few_changes : s.counts d ≤ change_count plan d =
          omega (arith, sound.counts_within d leaf, changes-is plan d (inside d leaf).0 (inside d leaf).1) in
          let here : market.is_member lists d (s.counts d) ≡ true =
          is_member-is plan d (s.counts d) (inside d leaf).0 (inside d leaf).1 few_changes ∙ ap (is_member plan d) (made d leaf) ∙ member in
          let is_last : last_index s d ≡ clearings s = (quiet_passed lists law s sound idle d leaf here).1 in
          cond-true (holds_price lists s d) (Some (local_step_at plan (cleared_cut s (last_index s d)) d, cleared_cut s (last_index s d) d)) None
          (quiet_holds lists law s sound idle d leaf here)
          ∙ ap (λ (j : ℕ). Some (local_step_at plan (cleared_cut s j) d, cleared_cut s j d)) is_last
          ∙ ap (λ (k : ℕ). Some (k, cleared_cut s (clearings s) d))
          (local_alike plan is_plan (cleared_cut s (clearings s)) (end_cut plan p) same d (leaf_node lists law d leaf))
          ∙ ap (λ (n : ℕ). Some (local_step_at plan (end_cut plan p) d, n)) (quiet_counts lists law s sound idle d leaf ∙ made d leaf)

      hold : (d : ℕ) → IsLeaf lists d → is_member plan d (end_cut plan p d) ≡ true → HoldsOver plan s (end_cut plan p) d
      hold d leaf member = record {
        step = local_step_at plan (end_cut plan p) d;
        goes_by = step_is plan is_plan (end_cut plan p) d;
        holds = holds d leaf member;
      }

  -- ---- of a legal journal

  -- what a line of a pass tells
  own_included : (journal : List Line) → IsJournal plan journal → (front rest : List Line) (d j k n : ℕ) →
      journal ≡ front ++ pass_line d j (Some (k, n)) ∷ rest → HoldsItsOwn plan journal d j k n
  unfolding power
  own_included journal is front rest d j k n split =
      let l : Line = pass_line d j (Some (k, n)) in
      let moves_are : moves_of journal ≡ moves_of front ++ Pass d j ∷ moves_of rest = ap moves_of split ∙ moves_split front (l ∷ rest) in
      let legal : LegalJournal lists (moves_of front ++ Pass d j ∷ moves_of rest) = subst (LegalJournal lists) moves_are is.legal in
      let parts = legal_parts lists (moves_of front) (Pass d j ∷ moves_of rest) start legal in
      let s : State = after lists (moves_of front) in
      let sound : Sound lists s = sound_after lists law (moves_of front) parts.0 in
      let t : State = step lists s (Pass d j) in
      let sound_t : Sound lists t = sound_step lists law s sound (Pass d j) parts.1.0 in
      let told : front ++ l ∷ rest ≡ lines_from lists (local_step_at plan) start (moves_of (front ++ l ∷ rest)) =
      subst (λ (ls : List Line). ls ≡ lines_from lists (local_step_at plan) start (moves_of ls)) split is.told in
      let holds : Some (k, n) ≡ holding_after lists (local_step_at plan) s (Pass d j) =
      ap (λ (m : Line). m.held) (told_at lists (local_step_at plan) front rest l start told) in
      let what = held_parts (is_leaf lists d) (holds_price lists t d)
      (local_step_at plan (cleared_cut t (last_index t d)) d, cleared_cut t (last_index t d) d) (k, n) holds in
      let leaf : IsLeaf lists d = what.0 in
      let last_is : last_index t d ≡ j = ap last_of (pushed_same s.passed d j) ∙ last_push (s.passed d) j in
      let there : Contains (t.passed d) j = subst (λ (is' : List ℕ). Contains is' j) (sym (pushed_same s.passed d j)) (Contains-push (s.passed d) j) in
      let made = sound_t.passed_within d j there in
      let final : after lists (moves_of journal) ≡ after_from lists t (moves_of rest) =
      ap (after lists) moves_are ∙ after_append lists (moves_of front) (Pass d j ∷ moves_of rest) start in
      let stays = cleared_stays lists (moves_of rest) t j made.1 in
      let cut_is : cleared_cut t (last_index t d) ≡ clearing_cut plan journal j =
      ap (cleared_cut t) last_is ∙ sym stays.1 ∙ ap (λ (u : State). cleared_cut u j) (sym final) in
      let number : n ≡ clearing_cut plan journal j d = ap (λ (price : ℕ × ℕ). price.1) what.2 ∙ ap (λ (cut : Cut). cut d) cut_is in
      let at_step : k ≡ local_step_at plan (clearing_cut plan journal j) d =
      ap (λ (price : ℕ × ℕ). price.0) what.2 ∙ ap (λ (cut : Cut). local_step_at plan cut d) cut_is in
      let number_t : n ≡ cleared_cut t (last_index t d) d = ap (λ (price : ℕ × ℕ). price.1) what.2 in
      let few : n ≤ change_count plan d =
      omega (arith, number_t, ap (λ (i : ℕ). cleared_cut t i d) last_is, cleared_few t sound_t d j leaf made.1) in
      record {
        device = leaf;
        made = (made.0, subst (λ (u : State). j ≤ clearings u) (sym final) stays.0);
        included = number;
        member =
            sym (is_member-is plan d n (inside d leaf).0 (inside d leaf).1 few)
            ∙ ap (market.is_member lists d) number_t
            ∙ holder_included lists t sound_t d leaf what.1;
        goes_by = subst (IsAuctionStep plan (clearing_cut plan journal j) d) (sym at_step) (step_is plan is_plan (clearing_cut plan journal j) d);
        counted =
            ap (λ (i : ℕ). demand_at (device_demand plan d i) k) number
            ∙ ap (demand_at (device_demand plan d (clearing_cut plan journal j d))) at_step
            ∙ ap (λ (bid : List ℤ). demand_at bid (local_step_at plan (clearing_cut plan journal j) d))
            (sym (demand_is plan (clearing_cut plan journal j) d));
      }

  -- a journal whose moves never go back has lines that do not
  pub forward_in_lines : (journal : List Line) → NeverGoesBack plan journal → NobodyGoesBack plan journal
  forward_in_lines journal forward front mid rest x i j first later split =
      forward (moves_of front) (moves_of mid) (moves_of rest) x i j
      (ap moves_of split ∙ moves_split front (pass_line x i first ∷ (mid ++ pass_line x j later ∷ rest))
      ∙ ap (λ (ms : List Move). moves_of front ++ Pass x i ∷ ms) (moves_split mid (pass_line x j later ∷ rest)))

  no_way_back : (journal : List Line) → IsJournal plan journal → NobodyGoesBack plan journal
  no_way_back journal is = forward_in_lines journal (λ front mid rest x i j moves_are.
      subst (λ (ms : List Move). (i < j) × ((d : ℕ) → IsLeaf lists d → cleared_cut (after lists ms) i d ≤ cleared_cut (after lists ms) j d))
      (sym moves_are)
      (never_back lists law front mid rest x i j (subst (LegalJournal lists) moves_are is.legal)))

  held_at_close : (journal : List Line) → IsJournal plan journal → (front rest : List Line) (p : ℕ) (price : Option (ℕ × ℕ)) →
      journal ≡ front ++ close_line p price ∷ rest → AllHold plan (state_after_lines plan front) p
  held_at_close journal is front rest p price split =
      let moves_are : moves_of journal ≡ moves_of front ++ Close p ∷ moves_of rest =
      ap moves_of split ∙ moves_split front (close_line p price ∷ rest) in
      let parts = legal_parts lists (moves_of front) (Close p ∷ moves_of rest) start (subst (LegalJournal lists) moves_are is.legal) in
      let closes = parts.1.0 in
      all_hold (after lists (moves_of front)) p (sound_after lists law (moves_of front) parts.0) closes.3 (omega (arith, closes.1, phases-is plan)) closes.2

  held_at_end : (journal : List Line) → IsCompleteJournal plan journal → AllHold plan (state_after_lines plan journal) (phases plan)
  held_at_end journal is =
      let sound = sound_after lists law (moves_of journal) is.legal.legal in
      all_hold (after lists (moves_of journal)) (phases plan) sound (sound.ended_idle is.complete) (omega arith)
      (λ d leaf. sound.ended_counts is.complete d leaf ∙ sym (law.ends_last d leaf) ∙ ap (λ (p : ℕ). end_count lists p d) (phases-is plan))

  -- the lines of a complete journal are a run
  pub is_run : (journal : List Line) → IsCompleteJournal plan journal → IsMarketRun plan journal
  is_run journal is = record {
    is_journal = is.legal;
    complete = is.complete;
    own_included = own_included journal is.legal;
    adds_up = λ j g. powers_group plan g (clearing_cut plan journal j) is_plan;
    never_back = no_way_back journal is.legal;
    closes = λ p low high. closed_by lists p journal start is.legal.legal (omega arith) (omega (arith, is.complete, phases-is plan));
    at_close = held_at_close journal is.legal;
    at_end = held_at_end journal is;
  }

  -- the text of a complete journal tells its run
  pub tells_run : (journal : List Line) (text : List ℕ) → IsCompleteJournal plan journal → text ≡ trace_text plan (all_ends plan) journal →
      TellsRun plan journal text
  unfolding trace_text
  tells_run journal text is written = record {
    report = report_text plan (all_ends plan);
    reported = report_is plan (report_text plan (all_ends plan)) is_plan refl;
    written = written;
    run = is_run journal is;
    only = λ other is_other same. traces_tell plan other journal is_plan is_other is.legal (sym same ∙ written);
  }

  -- a text that tells a run is the trace of its journal
  pub told_run : (journal : List Line) (text : List ℕ) → TellsRun plan journal text →
      IsCompleteJournal plan journal × (text ≡ trace_text plan (all_ends plan) journal)
  unfolding trace_text
  told_run journal text tells = (
    record { legal = tells.run.is_journal; complete = tells.run.complete },
    tells.written
        ∙ ap (λ (r : List ℕ). r ++ (flat_map (move_line plan) journal ++ moves_line journal)) (report_only plan tells.report is_plan tells.reported),
  )
