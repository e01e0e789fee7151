-- A process of a relay, frame by frame.
use Rattle.std.proofs.Common.{◌≡◌, ◌⊎◌, ◌∙◌, sym, ap, subst, ℕ, List, [], ◌∷◌, ◌++◌, Option, Some, None, refl, inl, inr}
use Rattle.pm_basis.specs.Prices.{BasisValue}
use Rattle.pm_wire.specs.declared.frame.Frame.TheVariants.{Hello, Bid, Gone, Clear}
use Rattle.pm_wire.specs.Framing.{MayStand, AllStand, Stops, BeginsWith}
use Rattle.pm_wire.specs.Taking.{Runs}
use Rattle.pm_frames.specs.Stored.{StoredRelay, relay_resume_bytes}
use Rattle.pm_frames.specs.RelayFrames.{relay_framing, IsRelayFormed, relay_place_after}
use Rattle.pm_frames.specs.declared.terms.RelayTerms.{RelayTerms}
use Rattle.pm_frames.specs.declared.place.RelayPlace.{RelayPlace}
use Rattle.pm_frames.specs.declared.place.Stage.{Stage}
use Rattle.pm_frames.specs.declared.place.Stage.TheVariants.{Opened, Running}
use Rattle.pm_frames.specs.declared.relay.RelayFrame.{RelayFrame}
use Rattle.pm_frames.specs.declared.relay.RelayFrame.TheVariants.{Child, Parent, Send, Expire, Bound, Resume}
use Rattle.pm_frames.specs.declared.relay.RelayFrame.TheVariants as given
use Rattle.pm_services.specs.RelayAnswers.{OpenRelay, RelayServiceValue, AnswersRelay, WritesOpenRelay, WritesNow, written_by}
use Rattle.pm_services.specs.RelayWrites.{WaitingRelay, WritesRelay, relay_bytes}
use Rattle.pm_services.specs.RelaySetups.{RelaySetup}
use Rattle.pm_base.specs.declared.limits.Limits.{Limits}
use Rattle.pm_services.specs.Bounds.{no_bounds}
use Rattle.pm_services.specs.Outputs.{Output, outputs_bytes}
use Rattle.pm_lives.specs.Answering.{IsNoRelayResume}
use Rattle.pm_lives.specs.Carrying.{RelayIsBack, hello, resumed}
use Rattle.pm_lives.proofs.Carrying.{relay_is_back}
use Rattle.pm_processes.specs.Processes.{IsRelayProcess, HasNoFrame, relay_start, new_relay_service}
use Rattle.pm_processes.specs.RelayProcess.{RelayExchange, RelayExchanges, AreRelayBounds, RelayProcess, relay_frames}
use Rattle.pm_processes.specs.RelayProcess.{relay_outs, setup_with, relay_start_frames, relay_resumed}
use Rattle.pm_services.proofs.Written.{written_then}
use Rattle.pm_processes.proofs.Runs.{ran, wrote_of}

-- behind the start of a stream there is no Hello and no Resume
module _ (child' : ℕ) (terms' : RelayTerms) (basis : BasisValue) where
  abbrev place_at : Stage → RelayPlace
  place_at stage' = record { child = child'; terms = terms'; stage = stage' }

  later_running : (frame : RelayFrame) → IsRelayFormed (place_at (Running basis)) frame →
      relay_place_after (place_at (Running basis)) frame ≡ place_at (Running basis)
  later_running (Child (Hello b)) formed = absurd formed.0
  later_running (Child (Bid sender number demand)) formed = refl
  later_running (Child (Gone sender number)) formed = refl
  later_running (Child Clear) formed = absurd formed.1
  later_running (Parent frame) formed = refl
  later_running Send formed = refl
  later_running (Expire sender) formed = refl
  later_running (given.Limits number limits) formed = refl
  later_running (Bound sender bound) formed = refl
  later_running (Resume stored) formed = absurd formed.0

  first_running : (frame : RelayFrame) → IsRelayFormed (place_at (Opened basis)) frame → IsNoRelayResume frame →
      relay_place_after (place_at (Opened basis)) frame ≡ place_at (Running basis)
  first_running (Child (Hello b)) formed other = absurd formed.0
  first_running (Child (Bid sender number demand)) formed other = refl
  first_running (Child (Gone sender number)) formed other = refl
  first_running (Child Clear) formed other = absurd formed.1
  first_running (Parent frame) formed other = refl
  first_running Send formed other = refl
  first_running (Expire sender) formed other = refl
  first_running (given.Limits number limits) formed other = refl
  first_running (Bound sender bound) formed other = refl
  first_running (Resume stored) formed other = absurd other

module _ (own : RelaySetup) where
  -- the frames are answered one after the other
  record Answered (held : WaitingRelay) (bounds : List Limits) (frames : List RelayFrame) (reply : List ℕ) : Type 0 where
    exchanges : List RelayExchange
    frames_are : relay_frames exchanges ≡ frames
    answers : RelayExchanges own held exchanges
    bounded : AreRelayBounds bounds exchanges
    written : reply ≡ outputs_bytes relay_resume_bytes own.basis own.child (relay_outs exchanges)

  one_more : (frame : RelayFrame) (frames : List RelayFrame) (old new : OpenRelay) (outs' : List (Output StoredRelay)) (first rest : List ℕ) →
      old.setup ≡ own → WritesOpenRelay old frame new outs' → first ≡ relay_bytes old.setup outs' →
      (new.setup ≡ own → Answered new.held new.bounds frames rest) → Answered old.held old.bounds (frame ∷ frames) (first ++ rest)
  one_more frame' frames old new outs' first rest setup did spelled then =
      let others = then (did.setup ∙ setup) in
      record {
        exchanges = record { frame = frame'; bounds = old.bounds; after = new.held; outs = outs' } ∷ others.exchanges;
        frames_are = ap (λ (l : List RelayFrame). frame' ∷ l) others.frames_are;
        answers = (subst (λ (s : RelaySetup). WritesRelay s old.bounds old.held frame' new.held outs') setup did.held, others.answers);
        bounded = (refl, subst (λ (b : List Limits). AreRelayBounds b others.exchanges) did.bounds others.bounded);
        written = written_then relay_resume_bytes own.basis own.child outs' (relay_outs others.exchanges) first rest
            (subst (λ (s : RelaySetup). first ≡ relay_bytes s outs') setup spelled) others.written;
      }

  abbrev behind : Stage → RelayPlace
  behind stage = place_at own.child own.terms own.basis stage

  answered : (frames : List RelayFrame) → AllStand relay_framing (behind (Running own.basis)) frames →
      (service after : RelayServiceValue) (old : OpenRelay) → service.relay ≡ Some old → old.setup ≡ own → (reply : List ℕ) →
      Runs AnswersRelay service frames after reply → Answered old.held old.bounds frames reply
  answered [] stand service after old is setup reply runs = record { exchanges = []; frames_are = refl; answers = tt; bounded = tt; written = runs.1 }
  answered (frame ∷ frames) stand service after old is setup reply runs =
      let later = later_running own.child own.terms own.basis frame stand.0.formed in
      let now = subst (λ (o : Option OpenRelay). WritesNow service.child service.terms o frame runs.0.relay runs.3.outs) is runs.3.writes in
      subst (Answered old.held old.bounds (frame ∷ frames)) (sym runs.5)
      (one_more frame frames old now.0 runs.3.outs runs.1 runs.2 setup now.2
      (runs.3.written ∙ ap (λ (o : Option OpenRelay). written_by o runs.3.outs) is)
      (λ same. answered frames (subst (λ (q : RelayPlace). AllStand relay_framing q frames) later stand.1) runs.0 after now.0 now.1 same runs.2 runs.4))

  -- the first frame may stand directly behind Hello
  answered_first : (frames : List RelayFrame) → AllStand relay_framing (behind (Opened own.basis)) frames →
      ((frame : RelayFrame) (more : List RelayFrame) → frames ≡ frame ∷ more → IsNoRelayResume frame) →
      (service after : RelayServiceValue) (old : OpenRelay) → service.relay ≡ Some old → old.setup ≡ own → (reply : List ℕ) →
      Runs AnswersRelay service frames after reply → Answered old.held old.bounds frames reply
  answered_first [] stand other service after old is setup reply runs = record {
    exchanges = [];
    frames_are = refl;
    answers = tt;
    bounded = tt;
    written = runs.1;
  }
  answered_first (frame ∷ frames) stand other service after old is setup reply runs =
      let no_resume = other frame frames refl in
      let later = first_running own.child own.terms own.basis frame stand.0.formed no_resume in
      let now = subst (λ (o : Option OpenRelay). WritesNow service.child service.terms o frame runs.0.relay runs.3.outs) is runs.3.writes in
      subst (Answered old.held old.bounds (frame ∷ frames)) (sym runs.5)
      (one_more frame frames old now.0 runs.3.outs runs.1 runs.2 setup now.2
      (runs.3.written ∙ ap (λ (o : Option OpenRelay). written_by o runs.3.outs) is)
      (λ same. answered frames (subst (λ (q : RelayPlace). AllStand relay_framing q frames) later stand.1) runs.0 after now.0 now.1 same runs.2 runs.4))

-- a process that is back with what it was given, and answered frames
module _ (child : ℕ) (terms : RelayTerms) (took wrote : List ℕ) where
  abbrev Is : Type 0
  Is = HasNoFrame relay_framing (relay_start child terms) took ⊎ RelayProcess child terms took wrote

  built : (basis : BasisValue) (resume : Option StoredRelay) (frames : List RelayFrame) (rest first others beyond more : List ℕ)
      (after : RelayServiceValue) →
      BeginsWith relay_framing (relay_start child terms) took (relay_start_frames basis resume ++ frames) rest →
      (back : RelayIsBack (new_relay_service child terms) basis after (relay_resumed (setup_with child terms basis) resume) first) →
      Answered (setup_with child terms basis) back.held no_bounds frames others → (first ++ others) ++ beyond ≡ wrote ++ more →
      RelayProcess child terms took wrote
  built basis resume frames rest first others beyond more after begins back then spelled = record {
    basis = basis;
    resume = resume;
    exchanges = then.exchanges;
    rest = rest;
    begins = subst (λ (l : List RelayFrame). BeginsWith relay_framing (relay_start child terms) took (relay_start_frames basis resume ++ l) rest)
        (sym then.frames_are) begins;
    relay = back.relay;
    back = back.back;
    held = back.held;
    outs = back.outs;
    learns = back.learns;
    answers = then.answers;
    bounded = then.bounded;
    written = wrote_of relay_resume_bytes basis child (back.outs ++ relay_outs then.exchanges) (first ++ others) beyond wrote more
        (written_then relay_resume_bytes basis child back.outs (relay_outs then.exchanges) first others back.written then.written) spelled;
  }

  abbrev service : RelayServiceValue
  service = new_relay_service child terms

  -- Hello alone
  alone : (basis : BasisValue) (frames : List RelayFrame) (rest beyond more reply : List ℕ) (after : RelayServiceValue) →
      BeginsWith relay_framing (relay_start child terms) took (Child (Hello basis) ∷ frames) rest →
      ((frame : RelayFrame) (others : List RelayFrame) → frames ≡ frame ∷ others → IsNoRelayResume frame) →
      Runs AnswersRelay service (Child (Hello basis) ∷ frames) after reply → reply ++ beyond ≡ wrote ++ more → RelayProcess child terms took wrote
  alone basis frames rest beyond more reply after begins other runs spelled =
      let back = relay_is_back service basis runs.0 (relay_resumed (setup_with child terms basis) None) runs.1 refl (hello runs.1 runs.3) in
      built basis None frames rest runs.1 runs.2 beyond more runs.0 begins back
      (answered_first (setup_with child terms basis) frames begins.stand.1 other runs.0 after
      (record { setup = setup_with child terms basis; bounds = no_bounds; held = back.held }) back.relay_is refl runs.2 runs.4)
      (ap (λ (l : List ℕ). l ++ beyond) (sym runs.5) ∙ spelled)

  -- Hello and a Resume
  again : (basis : BasisValue) (stored : StoredRelay) (frames : List RelayFrame) (rest beyond more reply : List ℕ) (after : RelayServiceValue) →
      BeginsWith relay_framing (relay_start child terms) took (Child (Hello basis) ∷ Resume stored ∷ frames) rest →
      Runs AnswersRelay service (Child (Hello basis) ∷ Resume stored ∷ frames) after reply → reply ++ beyond ≡ wrote ++ more →
      RelayProcess child terms took wrote
  again basis stored frames rest beyond more reply after begins runs spelled =
      let then = runs.4 in
      let back = relay_is_back service basis then.0 stored then.1 refl (resumed runs.0 runs.1 then.1 stored runs.3 then.3) in
      let silent : runs.1 ≡ [] = runs.3.written in
      built basis (Some stored) frames rest then.1 then.2 beyond more then.0 begins back
      (answered (setup_with child terms basis) frames begins.stand.1.1 then.0 after
      (record { setup = setup_with child terms basis; bounds = no_bounds; held = back.held }) back.relay_is refl then.2 then.4)
      (ap (λ (l : List ℕ). l ++ beyond) (sym then.5) ∙ ap (λ (l : List ℕ). (l ++ runs.2) ++ beyond) (sym silent)
      ∙ ap (λ (l : List ℕ). l ++ beyond) (sym runs.5) ∙ spelled)

  second : (basis : BasisValue) (frame : RelayFrame) (frames : List RelayFrame) (rest beyond more reply : List ℕ) (after : RelayServiceValue) →
      BeginsWith relay_framing (relay_start child terms) took (Child (Hello basis) ∷ frame ∷ frames) rest →
      Runs AnswersRelay service (Child (Hello basis) ∷ frame ∷ frames) after reply → reply ++ beyond ≡ wrote ++ more →
      RelayProcess child terms took wrote
  second basis (Resume stored) frames rest beyond more reply after begins runs spelled =
      again basis stored frames rest beyond more reply after begins runs spelled
  second basis frame frames rest beyond more reply after begins runs spelled =
      alone basis (frame ∷ frames) rest beyond more reply after begins
      (λ g others e. subst IsNoRelayResume (same_first frame g frames others e) tt) runs spelled
    where
      same_first : (f g : RelayFrame) (fs gs : List RelayFrame) → f ∷ fs ≡ g ∷ gs → f ≡ g
      same_first f g fs gs e = cc

  first : (frames : List RelayFrame) (rest beyond more reply : List ℕ) (after : RelayServiceValue) →
      BeginsWith relay_framing (relay_start child terms) took frames rest →
      Stops relay_framing (Rattle.pm_wire.specs.Framing.place_behind relay_framing (relay_start child terms) frames) rest →
      Runs AnswersRelay service frames after reply → reply ++ beyond ≡ wrote ++ more → Is
  first [] rest beyond more reply after begins stops runs spelled =
      inl (subst (λ (l : List ℕ). Stops relay_framing (relay_start child terms) l) (sym begins.spelled) stops)
  first (Child (Hello basis) ∷ []) rest beyond more reply after begins stops runs spelled =
      inr (alone basis [] rest beyond more reply after begins (λ frame others e. absurd (nothing frame others e)) runs spelled)
    where
      nothing : (f : RelayFrame) (fs : List RelayFrame) → [] ≡ f ∷ fs → ⊥
      nothing f fs e = cc e
  first (Child (Hello basis) ∷ (frame ∷ frames)) rest beyond more reply after begins stops runs spelled =
      inr (second basis frame frames rest beyond more reply after begins runs spelled)
  first (Child (Bid sender number demand) ∷ frames) rest beyond more reply after begins stops runs spelled = absurd begins.stand.0.formed.0
  first (Child (Gone sender number) ∷ frames) rest beyond more reply after begins stops runs spelled = absurd begins.stand.0.formed.0
  first (Child Clear ∷ frames) rest beyond more reply after begins stops runs spelled = absurd begins.stand.0.formed.1
  first (Parent frame ∷ frames) rest beyond more reply after begins stops runs spelled = absurd begins.stand.0.formed.0
  first (Send ∷ frames) rest beyond more reply after begins stops runs spelled = absurd begins.stand.0.formed
  first (Expire sender ∷ frames) rest beyond more reply after begins stops runs spelled = absurd begins.stand.0.formed.0
  first (given.Limits number limits ∷ frames) rest beyond more reply after begins stops runs spelled = absurd begins.stand.0.formed.0
  first (Bound sender bound ∷ frames) rest beyond more reply after begins stops runs spelled = absurd begins.stand.0.formed.0
  first (Resume stored ∷ frames) rest beyond more reply after begins stops runs spelled = absurd begins.stand.0.formed.0

  -- a process of a relay, frame by frame
  pub relay_process : IsRelayProcess child terms took wrote → HasNoFrame relay_framing (relay_start child terms) took ⊎ RelayProcess child terms took wrote
  relay_process is =
      let r = ran relay_framing (relay_start child terms) AnswersRelay service took wrote is in
      first r.frames r.rest r.beyond r.more r.reply r.after r.begins r.stops r.runs r.spelled
