-- A process of a device's agent, frame by frame.
use Rattle.std.proofs.Common.{◌≡◌, ◌⊎◌, ◌∙◌, sym, ap, subst, ℕ, ℤ}
use Rattle.std.proofs.Common.{List, [], ◌∷◌, ◌++◌, Option, Some, None}
use Rattle.std.proofs.Common.{length, IfSome, refl, inl, inr, append-nil}
use Rattle.std.proofs.lemmas.Bool.{cases_Bool}
use Rattle.std.proofs.lemmas.List.Elements.{All-from_recursion}
use Rattle.pm_basis.specs.Prices.{BasisValue}
use Rattle.pm_net.specs.Pricing.{Pricing}
use Rattle.pm_net.specs.Agents.{DeviceAgent, new_agent}
use Rattle.pm_control.specs.Control.{agent_stored}
use Rattle.pm_wire.specs.Framing.{MayStand, AllStand, Stops, BeginsWith, place_behind}
use Rattle.pm_wire.specs.Taking.{Runs}
use Rattle.pm_frames.specs.Stored.{agent_resume_bytes, IsNewestFormed, IsNewestAccepted}
use Rattle.pm_frames.specs.DeviceFrames.{device_framing, device_place_after}
use Rattle.pm_device.specs.declared.kind.Kind.{Kind}
use Rattle.pm_points.proofs.Falls.{length-array_of}
use Rattle.pm_bid.specs.Bids.{HaveSteps}
use Rattle.pm_strategy.proofs.BidLaws.{length-bid_of}
use Rattle.pm_frames.specs.Places.{basis_at, steps_at}
use Rattle.pm_frames.specs.NamedKinds.{kind_of_named}
use Rattle.pm_frames.specs.OfferForms.{points_demand, IsOfferFormed, IsOfferAccepted}
use Rattle.pm_frames.specs.declared.form.OfferForm.{OfferForm}
use Rattle.pm_frames.specs.declared.form.OfferForm.TheVariants.{Array, Points, State}
use Rattle.pm_frames.specs.declared.place.NodePlace.{NodePlace}
use Rattle.pm_frames.specs.declared.place.Stage.{Stage}
use Rattle.pm_frames.specs.declared.place.Stage.TheVariants.{Opened, Running}
use Rattle.pm_frames.specs.declared.stored.StoredAgent.{StoredAgent}
use Rattle.pm_frames.specs.declared.parent.ParentFrame.TheVariants.{Price, Old}
use Rattle.pm_frames.specs.declared.device.DeviceFrame.{DeviceFrame}
use Rattle.pm_frames.specs.declared.device.DeviceFrame.TheVariants.{Hello, Offer, Leave, Parent, Resume}
use Rattle.pm_frames.specs.declared.device.DeviceFrame.TheVariants as device_frame
use Rattle.pm_services.specs.DeviceAnswers.{OpenDevice, DeviceServiceValue, AnswersDevice, device_after, reply_to, device_reply}
use Rattle.pm_services.specs.DeviceWrites.{same_basis}
use Rattle.pm_system.specs.Given.{IsDemand}
use Rattle.pm_services.specs.Outputs.{Output, Says, outputs_bytes}
use Rattle.pm_services.specs.DeviceWrites.{device_outs, agent_after}
use Rattle.pm_lives.specs.Lives.{restart_outs}
use Rattle.pm_lives.specs.Answering.{IsNoDeviceResume, IsOfBasis, IsOfOtherBasis}
use Rattle.pm_lives.proofs.Answering.{device_answers_frames, device_says_other}
use Rattle.pm_lives.proofs.Carrying.{device_is_back}
use Rattle.pm_services.proofs.Written.{written_then}
use Rattle.pm_processes.specs.Processes.{IsDeviceProcess, HasNoFrame, stream_start, new_device_service}
use Rattle.pm_processes.specs.DeviceProcess.{IsAsked, DeviceExchange, AnswersAgent, DeviceExchanges, DeviceProcess, device_frames, exchanged_outs}
use Rattle.pm_processes.specs.DeviceProcess.{device_start_frames, agent_resumed}
use Rattle.pm_processes.proofs.Offers.{is_demand}
use Rattle.pm_processes.proofs.Runs.{ran, wrote_of}

-- ---- places

module _ (child' : ℕ) (basis : BasisValue) where
  abbrev place_at : Stage → Option Kind → NodePlace
  place_at stage' kind' = record { child = child'; stage = stage'; kind = kind' }

  -- an offer that is accepted has as many steps as the basis, however the control said it
  offer_long : (stage : Stage) (kind : Option Kind) (form : OfferForm) (demand : List ℤ) → basis_at stage ≡ Some basis →
      steps_at stage ≡ basis.steps → IsOfferFormed (place_at stage kind) form demand →
      IsOfferAccepted (place_at stage kind) form demand → length demand ≡ basis.steps
  offer_long stage kind Array demand basis_is steps_is formed accepted = formed.0 ∙ steps_is
  offer_long stage kind (Points points) demand basis_is steps_is formed accepted =
      ap length formed.3 ∙ ap (λ (b : Option BasisValue). length (points_demand b points)) basis_is ∙ length-array_of points basis
  offer_long stage None (State state) demand basis_is steps_is formed accepted = absurd accepted.0
  offer_long stage (Some kind) (State state) demand basis_is steps_is formed accepted =
      ap length formed.1 ∙ length-bid_of kind state.0 [] (steps_at stage) no_arrays ∙ steps_is
    where
      no_arrays : HaveSteps (steps_at stage) []
      no_arrays = All-from_recursion (λ (bid : List ℤ). length bid ≡ steps_at stage) [] tt

  offered : (stage : Stage) (kind : Option Kind) (form : OfferForm) (demand : List ℤ) → basis_at stage ≡ Some basis →
      steps_at stage ≡ basis.steps → IsOfferFormed (place_at stage kind) form demand →
      IsOfferAccepted (place_at stage kind) form demand → IsDemand basis.steps demand
  offered stage kind form demand basis_is steps_is formed accepted =
      is_demand basis.steps demand (offer_long stage kind form demand basis_is steps_is formed accepted) accepted.1

  -- behind the start of a stream there is no Hello and no Resume, and an offer is a demand
  record Later (stage : Stage) (kind : Option Kind) (frame : DeviceFrame) : Type 0 where
    asked : IsAsked basis.steps frame
    named : Option Kind
    place_is : device_place_after (place_at stage kind) frame ≡ place_at (Running basis) named

  later_running : (kind : Option Kind) (frame : DeviceFrame) → MayStand device_framing (place_at (Running basis) kind) frame →
      Later (Running basis) kind frame
  later_running kind (Hello b) stands = absurd stands.formed
  later_running kind (Offer form demand) stands =
      record { asked = offered (Running basis) kind form demand refl refl stands.formed.1 stands.accepted; named = kind; place_is = refl }
  later_running kind (device_frame.Kind said) stands = record { asked = tt; named = kind_of_named said; place_is = refl }
  later_running kind (Resume stored) stands = absurd stands.formed.0
  later_running kind frame stands = record { asked = tt; named = kind; place_is = refl }

  first_running : (kind : Option Kind) (frame : DeviceFrame) → MayStand device_framing (place_at (Opened basis) kind) frame →
      IsNoDeviceResume frame → Later (Opened basis) kind frame
  first_running kind (Hello b) stands other = absurd stands.formed
  first_running kind (Offer form demand) stands other =
      record { asked = offered (Opened basis) kind form demand refl refl stands.formed.1 stands.accepted; named = kind; place_is = refl }
  first_running kind (device_frame.Kind said) stands other = record { asked = tt; named = kind_of_named said; place_is = refl }
  first_running kind (Resume stored) stands other = absurd other
  first_running kind frame stands other = record { asked = tt; named = kind; place_is = refl }

-- a price is of a basis, or of another one
of_basis : (own : BasisValue) (frame : DeviceFrame) → IsOfBasis own frame ⊎ IsOfOtherBasis own frame
of_basis own (Parent (Price child number index step basis)) = cases_Bool (same_basis basis own)
of_basis own (Parent (Old child kept)) = inl tt
of_basis own frame = inl tt

-- ---- offers

-- ---- frames one after the other

module _ (p : Pricing) (child' : ℕ) (basis' : BasisValue) where
  abbrev device_with : DeviceAgent → OpenDevice
  device_with agent' = record { agent = agent'; basis = basis' }

  record Answered (agent : DeviceAgent) (frames : List DeviceFrame) (reply : List ℕ) : Type 0 where
    exchanges : List DeviceExchange
    frames_are : device_frames exchanges ≡ frames
    answers : DeviceExchanges p basis' agent exchanges
    written : reply ≡ outputs_bytes agent_resume_bytes basis' child' (exchanged_outs exchanges)

  -- an exchange, and the device after it
  record Exchanged (agent : DeviceAgent) (frame : DeviceFrame) (after : Option OpenDevice) (reply : List ℕ) : Type 0 where
    new : DeviceAgent
    outs : List (Output StoredAgent)
    answers : AnswersAgent p basis' agent (record { frame = frame; after = new; outs = outs })
    device_is : after ≡ Some (device_with new)
    written : reply ≡ outputs_bytes agent_resume_bytes basis' child' outs

  exchanged : (agent : DeviceAgent) (frame : DeviceFrame) → IsAsked basis'.steps frame → (after : Option OpenDevice) (reply : List ℕ) →
      after ≡ device_after (Some (device_with agent)) frame → reply ≡ reply_to child' (Some (device_with agent)) frame →
      Exchanged agent frame after reply
  exchanged agent frame asked after reply after_is reply_is =
      elim (of_basis basis' frame) [
        | inl same ↦
            let f = device_answers_frames p.steps child' basis' agent frame same in
            record {
              new = agent_after agent frame;
              outs = device_outs p.steps basis' agent frame;
              answers = inl (asked, same, refl, refl);
              device_is = after_is ∙ ap (λ (d : OpenDevice). Some d) f.1;
              written = reply_is ∙ f.0;
            }
        | inr differs ↦
            let f = device_says_other child' (device_with agent) frame differs in
            let said : List ℕ = device_reply child' (device_with agent) frame in
            record {
              new = agent;
              outs = Says said ∷ [];
              answers = inr (differs, refl, said, f.1, refl);
              device_is = after_is ∙ ap (λ (d : OpenDevice). Some d) f.0;
              written = reply_is ∙ sym (append-nil said);
            }
      ]

  one_more : (agent : DeviceAgent) (frame : DeviceFrame) (frames : List DeviceFrame) (service mid : DeviceServiceValue) (first rest : List ℕ) →
      IsAsked basis'.steps frame → service.child ≡ child' → service.device ≡ Some (device_with agent) →
      AnswersDevice service frame mid first →
      ((new : DeviceAgent) → mid.child ≡ child' → mid.device ≡ Some (device_with new) → Answered new frames rest) →
      Answered agent (frame ∷ frames) (first ++ rest)
  one_more agent frame frames service mid first rest asked child_is is did then =
      let e = exchanged agent frame asked mid.device first (did.device ∙ ap (λ (o : Option OpenDevice). device_after o frame) is)
      (did.replied ∙ ap (λ (o : Option OpenDevice). reply_to service.child o frame) is
      ∙ ap (λ (n : ℕ). reply_to n (Some (device_with agent)) frame) child_is) in
      let others = then e.new (did.child ∙ child_is) e.device_is in
      record {
        exchanges = record { frame = frame; after = e.new; outs = e.outs } ∷ others.exchanges;
        frames_are = ap (λ (l : List DeviceFrame). frame ∷ l) others.frames_are;
        answers = (e.answers, others.answers);
        written = written_then agent_resume_bytes basis' child' e.outs (exchanged_outs others.exchanges) first rest e.written others.written;
      }

  answered : (frames : List DeviceFrame) (kind : Option Kind) → AllStand device_framing (place_at child' basis' (Running basis') kind) frames →
      (service after : DeviceServiceValue) (agent : DeviceAgent) → service.child ≡ child' →
      service.device ≡ Some (device_with agent) →
      (reply : List ℕ) → Runs AnswersDevice service frames after reply → Answered agent frames reply
  answered [] kind stand service after agent child_is is reply runs =
      record { exchanges = []; frames_are = refl; answers = tt; written = runs.1 }
  answered (frame ∷ frames) kind stand service after agent child_is is reply runs =
      let later = later_running child' basis' kind frame stand.0 in
      subst (Answered agent (frame ∷ frames)) (sym runs.5)
      (one_more agent frame frames service runs.0 runs.1 runs.2 later.asked child_is is runs.3
      (λ new same at. answered frames later.named (subst (λ (q : NodePlace). AllStand device_framing q frames) later.place_is stand.1) runs.0 after
      new same at runs.2 runs.4))

  -- the first frame may stand directly behind Hello
  answered_first : (frames : List DeviceFrame) (kind : Option Kind) → AllStand device_framing (place_at child' basis' (Opened basis') kind) frames →
      ((frame : DeviceFrame) (more : List DeviceFrame) → frames ≡ frame ∷ more → IsNoDeviceResume frame) →
      (service after : DeviceServiceValue) (agent : DeviceAgent) → service.child ≡ child' →
      service.device ≡ Some (device_with agent) →
      (reply : List ℕ) → Runs AnswersDevice service frames after reply → Answered agent frames reply
  answered_first [] kind stand other service after agent child_is is reply runs =
      record { exchanges = []; frames_are = refl; answers = tt; written = runs.1 }
  answered_first (frame ∷ frames) kind stand other service after agent child_is is reply runs =
      let no_resume = other frame frames refl in
      let later = first_running child' basis' kind frame stand.0 no_resume in
      subst (Answered agent (frame ∷ frames)) (sym runs.5)
      (one_more agent frame frames service runs.0 runs.1 runs.2 later.asked child_is is runs.3
      (λ new same at. answered frames later.named (subst (λ (q : NodePlace). AllStand device_framing q frames) later.place_is stand.1) runs.0 after
      new same at runs.2 runs.4))

-- ---- a process that is back with what it was given, and answered frames

module _ (p : Pricing) (child : ℕ) (took wrote : List ℕ) where
  abbrev Is : Type 0
  Is = HasNoFrame device_framing (stream_start child) took ⊎ DeviceProcess p child took wrote

  abbrev service : DeviceServiceValue
  service = new_device_service child

  abbrev agent_of : StoredAgent → DeviceAgent
  agent_of stored = agent_stored stored.number stored.newest stored.index

  built : (basis : BasisValue) (resume : Option StoredAgent) (frames : List DeviceFrame) (rest first others beyond more : List ℕ) →
      IfSome (agent_resumed basis resume).newest (IsDemand basis.steps) →
      BeginsWith device_framing (stream_start child) took (device_start_frames basis resume ++ frames) rest →
      first ≡ outputs_bytes agent_resume_bytes basis child (restart_outs p (agent_resumed basis resume)) →
      Answered p child basis (agent_of (agent_resumed basis resume)) frames others → (first ++ others) ++ beyond ≡ wrote ++ more →
      DeviceProcess p child took wrote
  built basis resume frames rest first others beyond more newest begins sent then spelled = record {
    basis = basis;
    resume = resume;
    exchanges = then.exchanges;
    rest = rest;
    newest = newest;
    begins = subst (λ (l : List DeviceFrame). BeginsWith device_framing (stream_start child) took (device_start_frames basis resume ++ l) rest)
        (sym then.frames_are) begins;
    answers = then.answers;
    written = wrote_of agent_resume_bytes basis child (restart_outs p (agent_resumed basis resume) ++ exchanged_outs then.exchanges) (first ++ others)
        beyond wrote more
        (written_then agent_resume_bytes basis child (restart_outs p (agent_resumed basis resume)) (exchanged_outs then.exchanges) first others sent
        then.written) spelled;
  }

  newest_stored : (steps number : ℕ) (newest : Option (List ℤ)) → IsNewestFormed steps newest → IsNewestAccepted number newest →
      IfSome newest (IsDemand steps)
  newest_stored steps number None formed accepted = tt
  newest_stored steps number (Some demand) formed accepted = is_demand steps demand formed.0 accepted.1

  -- Hello alone
  alone : (basis : BasisValue) (frames : List DeviceFrame) (rest beyond more reply : List ℕ) (after : DeviceServiceValue) →
      BeginsWith device_framing (stream_start child) took (Hello basis ∷ frames) rest →
      ((frame : DeviceFrame) (others : List DeviceFrame) → frames ≡ frame ∷ others → IsNoDeviceResume frame) →
      Runs AnswersDevice service (Hello basis ∷ frames) after reply → reply ++ beyond ≡ wrote ++ more → DeviceProcess p child took wrote
  alone basis frames rest beyond more reply after begins other runs spelled =
      built basis None frames rest runs.1 runs.2 beyond more tt begins runs.3.replied
      (answered_first p child basis frames None begins.stand.1 other runs.0 after new_agent runs.3.child runs.3.device runs.2 runs.4)
      (ap (λ (l : List ℕ). l ++ beyond) (sym runs.5) ∙ spelled)

  -- Hello and a Resume
  again : (basis : BasisValue) (stored : StoredAgent) (frames : List DeviceFrame) (rest beyond more reply : List ℕ) (after : DeviceServiceValue) →
      BeginsWith device_framing (stream_start child) took (Hello basis ∷ Resume stored ∷ frames) rest →
      Runs AnswersDevice service (Hello basis ∷ Resume stored ∷ frames) after reply → reply ++ beyond ≡ wrote ++ more →
      DeviceProcess p child took wrote
  again basis stored frames rest beyond more reply after begins runs spelled =
      let then = runs.4 in
      let back = device_is_back p service runs.0 then.0 basis stored runs.1 then.1 refl begins.stand.1.0.accepted.2 runs.3 then.3 in
      built basis (Some stored) frames rest then.1 then.2 beyond more
      (newest_stored basis.steps stored.number stored.newest begins.stand.1.0.formed.1.3 begins.stand.1.0.accepted.2) begins back.written
      (answered p child basis frames None begins.stand.1.1 then.0 after (agent_of stored)
      (then.3.child ∙ runs.3.child) back.device_is then.2 then.4)
      (ap (λ (l : List ℕ). l ++ beyond) (sym then.5) ∙ ap (λ (l : List ℕ). (l ++ runs.2) ++ beyond) (sym back.silent)
      ∙ ap (λ (l : List ℕ). l ++ beyond) (sym runs.5) ∙ spelled)

  second : (basis : BasisValue) (frame : DeviceFrame) (frames : List DeviceFrame) (rest beyond more reply : List ℕ) (after : DeviceServiceValue) →
      BeginsWith device_framing (stream_start child) took (Hello basis ∷ frame ∷ frames) rest →
      Runs AnswersDevice service (Hello basis ∷ frame ∷ frames) after reply → reply ++ beyond ≡ wrote ++ more → DeviceProcess p child took wrote
  second basis (Resume stored) frames rest beyond more reply after begins runs spelled =
      again basis stored frames rest beyond more reply after begins runs spelled
  second basis frame frames rest beyond more reply after begins runs spelled =
      alone basis (frame ∷ frames) rest beyond more reply after begins
      (λ g others e. subst IsNoDeviceResume (same_first frame g frames others e) tt) runs spelled
    where
      same_first : (f g : DeviceFrame) (fs gs : List DeviceFrame) → f ∷ fs ≡ g ∷ gs → f ≡ g
      same_first f g fs gs e = cc

  first : (frames : List DeviceFrame) (rest beyond more reply : List ℕ) (after : DeviceServiceValue) →
      BeginsWith device_framing (stream_start child) took frames rest →
      Stops device_framing (place_behind device_framing (stream_start child) frames) rest →
      Runs AnswersDevice service frames after reply → reply ++ beyond ≡ wrote ++ more → Is
  first [] rest beyond more reply after begins stops runs spelled =
      inl (subst (λ (l : List ℕ). Stops device_framing (stream_start child) l) (sym begins.spelled) stops)
  first (Hello basis ∷ []) rest beyond more reply after begins stops runs spelled =
      inr (alone basis [] rest beyond more reply after begins (λ frame others e. absurd (nothing frame others e)) runs spelled)
    where
      nothing : (f : DeviceFrame) (fs : List DeviceFrame) → [] ≡ f ∷ fs → ⊥
      nothing f fs e = cc e
  first (Hello basis ∷ (frame ∷ frames)) rest beyond more reply after begins stops runs spelled =
      inr (second basis frame frames rest beyond more reply after begins runs spelled)
  first (Leave ∷ frames) rest beyond more reply after begins stops runs spelled = absurd begins.stand.0.formed
  first (frame ∷ frames) rest beyond more reply after begins stops runs spelled = absurd begins.stand.0.formed.0

  -- a process of a device's agent, frame by frame
  pub device_process : IsDeviceProcess child took wrote → HasNoFrame device_framing (stream_start child) took ⊎ DeviceProcess p child took wrote
  device_process is =
      let r = ran device_framing (stream_start child) AnswersDevice service took wrote is in
      first r.frames r.rest r.beyond r.more r.reply r.after r.begins r.stops r.runs r.spelled
