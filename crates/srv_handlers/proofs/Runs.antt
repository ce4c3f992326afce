-- What goes to sessions, one after another.
use Rattle.std.proofs.Common.{◌≡◌, ℕ, Bool, true, false, List, [], ◌∷◌, ◌++◌, Option, Some, None, append_assoc, refl, ap, sym, ◌∙◌}
use Rattle.srv_state.specs.State.{ServerState}
use Rattle.srv_state.specs.Steps.{Act}
use Rattle.sm_live.specs.Sessions.{info_of}
use Rattle.sm_live.specs.declared.told.SessionInfo.{SessionInfo}
use Rattle.srv_handlers.specs.Messages.{copying, copying_to, delivering, delivering_to}
use Rattle.im_stanza.specs.Views.{MessageView}
use Rattle.xml_writer.specs.Items.{ItemOut}

-- ---- deliveries

pub delivered_first : {A : Type 0} (say : ItemOut → A) (m : MessageView) (accounts : List ℕ) (n : ℕ) (o : Option SessionInfo) (h : ServerState A) (more : List (Act A))
    → delivering_to say m accounts n o h more ≡ delivering_to say m accounts n o h [] ++ more
delivered_first say m accounts n None h more = refl
delivered_first say m accounts n (Some t) h more = refl

all_delivered : {A : Type 0} (say : ItemOut → A) (m : MessageView) (accounts numbers : List ℕ) (h : ServerState A) (more : List (Act A))
    → delivering say m accounts numbers h more ≡ delivering say m accounts numbers h [] ++ more
all_delivered say m accounts [] h more = refl
all_delivered say m accounts (n ∷ numbers) h more =
    delivered_first say m accounts n (info_of n h.sessions) h (delivering say m accounts numbers h more)
    ∙ ap (λ l. delivering_to say m accounts n (info_of n h.sessions) h [] ++ l) (all_delivered say m accounts numbers h more)
    ∙ sym (append_assoc (delivering_to say m accounts n (info_of n h.sessions) h []) (delivering say m accounts numbers h []) more)
    ∙ ap (λ l. l ++ more) (sym (delivered_first say m accounts n (info_of n h.sessions) h (delivering say m accounts numbers h [])))

-- ---- copies

pub copied_first : {A : Type 0} (say : ItemOut → A) (sent : Bool) (m : MessageView) (accounts : List ℕ) (n : ℕ) (o : Option SessionInfo) (h : ServerState A) (more : List (Act A))
    → copying_to say sent m accounts n o h more ≡ copying_to say sent m accounts n o h [] ++ more
copied_first say sent m accounts n None h more = refl
copied_first say sent m accounts n (Some t) h more = refl

all_copied : {A : Type 0} (say : ItemOut → A) (sent : Bool) (m : MessageView) (accounts numbers : List ℕ) (h : ServerState A) (more : List (Act A))
    → copying say sent m accounts numbers h more ≡ copying say sent m accounts numbers h [] ++ more
all_copied say sent m accounts [] h more = refl
all_copied say sent m accounts (n ∷ numbers) h more =
    copied_first say sent m accounts n (info_of n h.sessions) h (copying say sent m accounts numbers h more)
    ∙ ap (λ l. copying_to say sent m accounts n (info_of n h.sessions) h [] ++ l) (all_copied say sent m accounts numbers h more)
    ∙ sym (append_assoc (copying_to say sent m accounts n (info_of n h.sessions) h []) (copying say sent m accounts numbers h []) more)
    ∙ ap (λ l. l ++ more) (sym (copied_first say sent m accounts n (info_of n h.sessions) h (copying say sent m accounts numbers h [])))

-- ---- all of it

pub all_sent : {A : Type 0} (say : ItemOut → A) (m : MessageView) (accounts deliver sent received : List ℕ) (h : ServerState A)
    → delivering say m accounts deliver h (copying say true m accounts sent h (copying say false m accounts received h []))
    ≡ (delivering say m accounts deliver h [] ++ copying say true m accounts sent h []) ++ copying say false m accounts received h []
all_sent say m accounts deliver sent received h =
    all_delivered say m accounts deliver h (copying say true m accounts sent h (copying say false m accounts received h []))
    ∙ ap (λ l. delivering say m accounts deliver h [] ++ l) (all_copied say true m accounts sent h (copying say false m accounts received h []))
    ∙ sym (append_assoc (delivering say m accounts deliver h []) (copying say true m accounts sent h []) (copying say false m accounts received h []))
