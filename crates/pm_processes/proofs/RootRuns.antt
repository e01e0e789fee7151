-- A process of an auctioneer, frame by frame.
use Rattle.std.proofs.Common.{◌≡◌, ◌⊎◌, ◌∙◌, sym, ap, subst, ℕ, List, [], ◌∷◌, ◌++◌, Option, Some, None, refl, inl, inr}
use Rattle.pm_basis.specs.Prices.{BasisValue}
use Rattle.pm_relay.specs.Roots.{RootValue}
use Rattle.pm_wire.specs.declared.frame.Frame.TheVariants.{Hello, Bid, Gone, Clear}
use Rattle.pm_wire.specs.Framing.{AllStand, Stops, BeginsWith, place_behind}
use Rattle.pm_wire.specs.Taking.{Runs}
use Rattle.pm_frames.specs.Stored.{StoredRoot, root_resume_bytes}
use Rattle.pm_frames.specs.RootFrames.{root_framing, IsRootFormed, root_stage_after}
use Rattle.pm_frames.specs.declared.place.Stage.{Stage}
use Rattle.pm_frames.specs.declared.place.Stage.TheVariants.{Start, Opened, Running}
use Rattle.pm_frames.specs.declared.root.RootFrame.{RootFrame}
use Rattle.pm_frames.specs.declared.root.RootFrame.TheVariants.{Market, Expire, Bound, Resume}
use Rattle.pm_services.specs.RootAnswers.{OpenRoot, AnswersRoot, WritesOpenRoot, WritesRootNow, written_by_root}
use Rattle.pm_base.specs.declared.limits.Limits.{Limits}
use Rattle.pm_services.specs.Outputs.{Output, outputs_bytes}
use Rattle.pm_services.specs.RootWrites.{WritesRoot, root_bytes}
use Rattle.pm_lives.specs.Answering.{IsNoRootResume}
use Rattle.pm_lives.specs.Carrying.{RootIsBack, root_hello, root_resumed}
use Rattle.pm_lives.proofs.Carrying.{root_is_back}
use Rattle.pm_services.proofs.Written.{written_then}
use Rattle.pm_processes.specs.Processes.{IsRootProcess, HasNoFrame}
use Rattle.pm_processes.specs.RootProcess as process
use Rattle.pm_processes.specs.RootProcess.{RootExchange, RootExchanges, AreRootBounds, RootProcess, root_frames, root_outs, root_start_frames}
use Rattle.pm_processes.proofs.Runs.{ran, wrote_of}

-- behind the start of a stream there is no Hello and no Resume
later_running : (basis : BasisValue) (frame : RootFrame) → IsRootFormed (Running basis) frame →
    root_stage_after (Running basis) frame ≡ Running basis
later_running basis (Market (Hello b)) formed = absurd formed
later_running basis (Market (Bid sender number demand)) formed = refl
later_running basis (Market (Gone sender number)) formed = refl
later_running basis (Market Clear) formed = refl
later_running basis (Expire sender) formed = refl
later_running basis (Bound sender bound) formed = refl
later_running basis (Resume stored) formed = absurd formed.0

first_running : (basis : BasisValue) (frame : RootFrame) → IsRootFormed (Opened basis) frame → IsNoRootResume frame →
    root_stage_after (Opened basis) frame ≡ Running basis
first_running basis (Market (Hello b)) formed other = absurd formed
first_running basis (Market (Bid sender number demand)) formed other = refl
first_running basis (Market (Gone sender number)) formed other = refl
first_running basis (Market Clear) formed other = refl
first_running basis (Expire sender) formed other = refl
first_running basis (Bound sender bound) formed other = refl
first_running basis (Resume stored) formed other = absurd other

module _ (basis : BasisValue) where
  -- the frames are answered one after the other
  record Answered (root : RootValue) (bounds : List Limits) (frames : List RootFrame) (reply : List ℕ) : Type 0 where
    exchanges : List RootExchange
    frames_are : root_frames exchanges ≡ frames
    answers : RootExchanges basis root exchanges
    bounded : AreRootBounds bounds exchanges
    written : reply ≡ outputs_bytes root_resume_bytes basis 0 (root_outs exchanges)

  one_more : (frame : RootFrame) (frames : List RootFrame) (old new : OpenRoot) (outs' : List (Output StoredRoot)) (first rest : List ℕ) →
      old.basis ≡ basis → WritesOpenRoot old frame new outs' → first ≡ root_bytes old.basis outs' →
      (new.basis ≡ basis → Answered new.root new.bounds frames rest) → Answered old.root old.bounds (frame ∷ frames) (first ++ rest)
  one_more frame' frames old new outs' first rest own did spelled then =
      let others = then (did.basis ∙ own) in
      record {
        exchanges = record { frame = frame'; bounds = old.bounds; after = new.root; outs = outs' } ∷ others.exchanges;
        frames_are = ap (λ (l : List RootFrame). frame' ∷ l) others.frames_are;
        answers = (subst (λ (b : BasisValue). WritesRoot b old.bounds old.root frame' new.root outs') own did.held, others.answers);
        bounded = (refl, subst (λ (b : List Limits). AreRootBounds b others.exchanges) did.bounds others.bounded);
        written = written_then root_resume_bytes basis 0 outs' (root_outs others.exchanges) first rest
            (subst (λ (b : BasisValue). first ≡ root_bytes b outs') own spelled) others.written;
      }

  answered : (frames : List RootFrame) → AllStand root_framing (Running basis) frames → (service after : Option OpenRoot) (old : OpenRoot) →
      service ≡ Some old → old.basis ≡ basis → (reply : List ℕ) → Runs AnswersRoot service frames after reply →
      Answered old.root old.bounds frames reply
  answered [] stand service after old is own reply runs = record { exchanges = []; frames_are = refl; answers = tt; bounded = tt; written = runs.1 }
  answered (frame ∷ frames) stand service after old is own reply runs =
      let later = later_running basis frame stand.0.formed in
      let now = subst (λ (o : Option OpenRoot). WritesRootNow o frame runs.0 runs.3.outs) is runs.3.writes in
      subst (Answered old.root old.bounds (frame ∷ frames)) (sym runs.5)
      (one_more frame frames old now.0 runs.3.outs runs.1 runs.2 own now.2
      (runs.3.written ∙ ap (λ (o : Option OpenRoot). written_by_root o runs.3.outs) is)
      (λ same. answered frames (subst (λ (q : Stage). AllStand root_framing q frames) later stand.1) runs.0 after now.0 now.1 same runs.2 runs.4))

  -- the first frame may stand directly behind Hello
  answered_first : (frames : List RootFrame) → AllStand root_framing (Opened basis) frames →
      ((frame : RootFrame) (more : List RootFrame) → frames ≡ frame ∷ more → IsNoRootResume frame) →
      (service after : Option OpenRoot) (old : OpenRoot) → service ≡ Some old → old.basis ≡ basis → (reply : List ℕ) →
      Runs AnswersRoot service frames after reply → Answered old.root old.bounds frames reply
  answered_first [] stand other service after old is own reply runs = record { exchanges = []; frames_are = refl; answers = tt; bounded = tt; written = runs.1 }
  answered_first (frame ∷ frames) stand other service after old is own reply runs =
      let no_resume = other frame frames refl in
      let later = first_running basis frame stand.0.formed no_resume in
      let now = subst (λ (o : Option OpenRoot). WritesRootNow o frame runs.0 runs.3.outs) is runs.3.writes in
      subst (Answered old.root old.bounds (frame ∷ frames)) (sym runs.5)
      (one_more frame frames old now.0 runs.3.outs runs.1 runs.2 own now.2
      (runs.3.written ∙ ap (λ (o : Option OpenRoot). written_by_root o runs.3.outs) is)
      (λ same. answered frames (subst (λ (q : Stage). AllStand root_framing q frames) later stand.1) runs.0 after now.0 now.1 same runs.2 runs.4))

-- a process that is back with what it was given, and answered frames
module _ (took wrote : List ℕ) where
  abbrev Is : Type 0
  Is = HasNoFrame root_framing Start took ⊎ RootProcess took wrote

  built : (basis : BasisValue) (resume : Option StoredRoot) (frames : List RootFrame) (rest others beyond more : List ℕ)
      (after : Option OpenRoot) → BeginsWith root_framing Start took (root_start_frames basis resume ++ frames) rest →
      (back : RootIsBack basis after (process.root_resumed basis resume)) →
      Answered basis back.up_root.root back.up_root.bounds frames others → others ++ beyond ≡ wrote ++ more → RootProcess took wrote
  built basis resume frames rest others beyond more after begins back then spelled = record {
    basis = basis;
    resume = resume;
    exchanges = then.exchanges;
    rest = rest;
    begins = subst (λ (l : List RootFrame). BeginsWith root_framing Start took (root_start_frames basis resume ++ l) rest)
        (sym then.frames_are) begins;
    root = back.up_root.root;
    back = back.back;
    answers = then.answers;
    bounded = subst (λ (b : List Limits). AreRootBounds b then.exchanges) back.bounds_are then.bounded;
    written = wrote_of root_resume_bytes basis 0 (root_outs then.exchanges) others beyond wrote more then.written spelled;
  }

  -- Hello alone
  alone : (basis : BasisValue) (frames : List RootFrame) (rest beyond more reply : List ℕ) (after : Option OpenRoot) →
      BeginsWith root_framing Start took (Market (Hello basis) ∷ frames) rest →
      ((frame : RootFrame) (others : List RootFrame) → frames ≡ frame ∷ others → IsNoRootResume frame) →
      Runs AnswersRoot None (Market (Hello basis) ∷ frames) after reply → reply ++ beyond ≡ wrote ++ more → RootProcess took wrote
  alone basis frames rest beyond more reply after begins other runs spelled =
      let back = root_is_back basis runs.0 (process.root_resumed basis None) (root_hello runs.1 runs.3) in
      built basis None frames rest runs.2 beyond more runs.0 begins back
      (answered_first basis frames begins.stand.1 other runs.0 after back.up_root back.root_is back.basis_is runs.2 runs.4)
      (ap (λ (l : List ℕ). (l ++ runs.2) ++ beyond) (sym runs.3.written) ∙ ap (λ (l : List ℕ). l ++ beyond) (sym runs.5) ∙ spelled)

  -- Hello and a Resume
  again : (basis : BasisValue) (stored : StoredRoot) (frames : List RootFrame) (rest beyond more reply : List ℕ) (after : Option OpenRoot) →
      BeginsWith root_framing Start took (Market (Hello basis) ∷ Resume stored ∷ frames) rest →
      Runs AnswersRoot None (Market (Hello basis) ∷ Resume stored ∷ frames) after reply → reply ++ beyond ≡ wrote ++ more → RootProcess took wrote
  again basis stored frames rest beyond more reply after begins runs spelled =
      let then = runs.4 in
      let back = root_is_back basis then.0 stored (root_resumed runs.0 runs.1 then.1 stored runs.3 then.3) in
      let opened = subst (λ (o : Option OpenRoot). WritesRootNow o (Resume stored) then.0 then.3.outs) runs.3.writes.0.opened then.3.writes in
      let silent : then.1 ≡ [] = then.3.written ∙ ap (λ (o : Option OpenRoot). written_by_root o then.3.outs) runs.3.writes.0.opened
      ∙ ap (root_bytes basis) opened.2.held.1 in
      built basis (Some stored) frames rest then.2 beyond more then.0 begins back
      (answered basis frames begins.stand.1.1 then.0 after back.up_root back.root_is back.basis_is then.2 then.4)
      (ap (λ (l : List ℕ). (l ++ then.2) ++ beyond) (sym silent) ∙ ap (λ (l : List ℕ). l ++ beyond) (sym then.5)
      ∙ ap (λ (l : List ℕ). (l ++ runs.2) ++ beyond) (sym runs.3.written) ∙ ap (λ (l : List ℕ). l ++ beyond) (sym runs.5) ∙ spelled)

  second : (basis : BasisValue) (frame : RootFrame) (frames : List RootFrame) (rest beyond more reply : List ℕ) (after : Option OpenRoot) →
      BeginsWith root_framing Start took (Market (Hello basis) ∷ frame ∷ frames) rest →
      Runs AnswersRoot None (Market (Hello basis) ∷ frame ∷ frames) after reply → reply ++ beyond ≡ wrote ++ more → RootProcess took wrote
  second basis (Resume stored) frames rest beyond more reply after begins runs spelled =
      again basis stored frames rest beyond more reply after begins runs spelled
  second basis frame frames rest beyond more reply after begins runs spelled =
      alone basis (frame ∷ frames) rest beyond more reply after begins
      (λ g others e. subst IsNoRootResume (same_first frame g frames others e) tt) runs spelled
    where
      same_first : (f g : RootFrame) (fs gs : List RootFrame) → f ∷ fs ≡ g ∷ gs → f ≡ g
      same_first f g fs gs e = cc

  first : (frames : List RootFrame) (rest beyond more reply : List ℕ) (after : Option OpenRoot) →
      BeginsWith root_framing Start took frames rest → Stops root_framing (place_behind root_framing Start frames) rest →
      Runs AnswersRoot None frames after reply → reply ++ beyond ≡ wrote ++ more → Is
  first [] rest beyond more reply after begins stops runs spelled =
      inl (subst (λ (l : List ℕ). Stops root_framing Start l) (sym begins.spelled) stops)
  first (Market (Hello basis) ∷ []) rest beyond more reply after begins stops runs spelled =
      inr (alone basis [] rest beyond more reply after begins (λ frame others e. absurd (nothing frame others e)) runs spelled)
    where
      nothing : (f : RootFrame) (fs : List RootFrame) → [] ≡ f ∷ fs → ⊥
      nothing f fs e = cc e
  first (Market (Hello basis) ∷ (frame ∷ frames)) rest beyond more reply after begins stops runs spelled =
      inr (second basis frame frames rest beyond more reply after begins runs spelled)
  first (Market (Bid sender number demand) ∷ frames) rest beyond more reply after begins stops runs spelled = absurd begins.stand.0.formed
  first (Market (Gone sender number) ∷ frames) rest beyond more reply after begins stops runs spelled = absurd begins.stand.0.formed
  first (Market Clear ∷ frames) rest beyond more reply after begins stops runs spelled = absurd begins.stand.0.formed
  first (Expire sender ∷ frames) rest beyond more reply after begins stops runs spelled = absurd begins.stand.0.formed.0
  first (Bound sender bound ∷ frames) rest beyond more reply after begins stops runs spelled = absurd begins.stand.0.formed.0
  first (Resume stored ∷ frames) rest beyond more reply after begins stops runs spelled = absurd begins.stand.0.formed.0

  -- a process of an auctioneer, frame by frame
  pub root_process : IsRootProcess took wrote → HasNoFrame root_framing Start took ⊎ RootProcess took wrote
  root_process is =
      let r = ran root_framing Start AnswersRoot None took wrote is in
      first r.frames r.rest r.beyond r.more r.reply r.after r.begins r.stops r.runs r.spelled
