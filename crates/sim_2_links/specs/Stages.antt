-- The handshake as one table: in each row the client's state, the server's phase and both pipes are determined.
use Rattle.std.specs.Prelude.{◌≡◌, ℕ, Bool, true, false, List, [], ◌∷◌, ◌++◌, Option, None, Some, map}
use Rattle.sim_2_links.specs.Words.{Traffic, UpWord, Hdr, Auth, Resp, ResumeAt, Bind, Enable, Up, Foot, DownWord, Head, Feat, Chal, Succ, Failed, Resumed, Bound, Enabled, Down, Err, End, Cause, Client, InHeader1, InFeatures1, InAuth, InResponse, InHeader2, InFeatures2, InResume, InBind, InEnable, InOnline, Phase, Start, Sasl, Challenge, Restart, Ready, AtSession}
use Rattle.sim_2_links.specs.Wires.{Wires, up_whole, down_whole}

-- a row of the table
pub data Stage (A : Type 0) : Type 0 where
  Greets : Stage A
  Greeted : Stage A
  Offered : Stage A
  Proves : Stage A
  Challenged : Stage A
  Answers : Stage A
  Succeeded : Stage A
  Regreets : Stage A
  Regreeted : Stage A
  Reoffered : Stage A
  AsksResume : ℕ → ℕ → Stage A
  Refused : ℕ → Stage A
  Resumes : ℕ → ℕ → List (Traffic A) → Stage A
  AsksBind : Stage A
  Binds : ℕ → Stage A
  AsksEnable : ℕ → Stage A
  Enables : ℕ → List (Traffic A) → Stage A
  Runs : ℕ → List (Traffic A) → List (Traffic A) → Stage A

abbrev pub client_of : {A : Type 0} → Stage A → Client
client_of Greets = InHeader1
client_of Greeted = InHeader1
client_of Offered = InFeatures1
client_of Proves = InAuth
client_of Challenged = InAuth
client_of Answers = InResponse
client_of Succeeded = InResponse
client_of Regreets = InHeader2
client_of Regreeted = InHeader2
client_of Reoffered = InFeatures2
client_of (AsksResume p h) = InResume p
client_of (Refused p) = InResume p
client_of (Resumes p h downs) = InResume p
client_of AsksBind = InBind
client_of (Binds m) = InBind
client_of (AsksEnable m) = InEnable
client_of (Enables m downs) = InEnable
client_of (Runs p ups downs) = InOnline p

abbrev pub phase_of : {A : Type 0} → Stage A → Phase
phase_of Greets = Start
phase_of Greeted = Sasl
phase_of Offered = Sasl
phase_of Proves = Sasl
phase_of Challenged = Challenge
phase_of Answers = Challenge
phase_of Succeeded = Restart
phase_of Regreets = Restart
phase_of Regreeted = Ready
phase_of Reoffered = Ready
phase_of (AsksResume p h) = Ready
phase_of (Refused p) = Ready
phase_of (Resumes p h downs) = AtSession p
phase_of AsksBind = Ready
phase_of (Binds m) = AtSession m
phase_of (AsksEnable m) = AtSession m
phase_of (Enables m downs) = AtSession m
phase_of (Runs p ups downs) = AtSession p

abbrev pub up_of : {A : Type 0} → Stage A → List (UpWord A)
up_of Greets = Hdr ∷ []
up_of Greeted = []
up_of Offered = []
up_of Proves = Auth ∷ []
up_of Challenged = []
up_of Answers = Resp ∷ []
up_of Succeeded = []
up_of Regreets = Hdr ∷ []
up_of Regreeted = []
up_of Reoffered = []
up_of (AsksResume p h) = ResumeAt p h ∷ []
up_of (Refused p) = []
up_of (Resumes p h downs) = []
up_of AsksBind = Bind ∷ []
up_of (Binds m) = []
up_of (AsksEnable m) = Enable ∷ []
up_of (Enables m downs) = []
up_of (Runs p ups downs) = map Up ups

abbrev pub down_of : {A : Type 0} → Stage A → List (DownWord A)
down_of Greets = []
down_of Greeted = Head ∷ Feat ∷ []
down_of Offered = Feat ∷ []
down_of Proves = []
down_of Challenged = Chal ∷ []
down_of Answers = []
down_of Succeeded = Succ ∷ []
down_of Regreets = []
down_of Regreeted = Head ∷ Feat ∷ []
down_of Reoffered = Feat ∷ []
down_of (AsksResume p h) = []
down_of (Refused p) = Failed ∷ []
down_of (Resumes p h downs) = Resumed p h ∷ map Down downs
down_of AsksBind = []
down_of (Binds m) = Bound m ∷ []
down_of (AsksEnable m) = []
down_of (Enables m downs) = Enabled m ∷ map Down downs
down_of (Runs p ups downs) = map Down downs

-- the rows outside of sessions, and the client's states before it asks for one
abbrev pub IsPlain : {A : Type 0} → Stage A → Type 0
IsPlain (AsksResume p h) = ⊥
IsPlain (Refused p) = ⊥
IsPlain (Resumes p h downs) = ⊥
IsPlain AsksBind = ⊥
IsPlain (Binds m) = ⊥
IsPlain (AsksEnable m) = ⊥
IsPlain (Enables m downs) = ⊥
IsPlain (Runs p ups downs) = ⊥
IsPlain _ = Unit {0}

abbrev pub IsEarly : Client → Type 0
IsEarly InFeatures2 = ⊥
IsEarly (InResume p) = ⊥
IsEarly InBind = ⊥
IsEarly InEnable = ⊥
IsEarly (InOnline p) = ⊥
IsEarly _ = Unit {0}

-- what an end does on a word of the handshake: nothing of this kind, or it comes to a state and puts words
pub data Hand (S W : Type 0) : Type 0 where
  Other : Hand S W
  Goes : S → List W → Hand S W

-- the server on a word, outside of sessions
abbrev pub server_hand : {A : Type 0} → Phase → UpWord A → Hand Phase (DownWord A)
server_hand Start Hdr = Goes Sasl (Head ∷ Feat ∷ [])
server_hand Sasl Auth = Goes Challenge (Chal ∷ [])
server_hand Challenge Resp = Goes Restart (Succ ∷ [])
server_hand Restart Hdr = Goes Ready (Head ∷ Feat ∷ [])
server_hand _ _ = Other

-- the client on a word; with its session and the count that it has handled, where it has one
abbrev pub client_hand : {A : Type 0} → Option (ℕ × ℕ) → Client → DownWord A → Hand Client (UpWord A)
client_hand own InHeader1 Head = Goes InFeatures1 []
client_hand own InFeatures1 Feat = Goes InAuth (Auth ∷ [])
client_hand own InAuth Chal = Goes InResponse (Resp ∷ [])
client_hand own InResponse Succ = Goes InHeader2 (Hdr ∷ [])
client_hand own InHeader2 Head = Goes InFeatures2 []
client_hand None InFeatures2 Feat = Goes InBind (Bind ∷ [])
client_hand (Some s) InFeatures2 Feat = Goes (InResume s.0) (ResumeAt s.0 s.1 ∷ [])
client_hand own (InResume p) Failed = Goes InBind (Bind ∷ [])
client_hand own InBind (Bound m) = Goes InEnable (Enable ∷ [])
client_hand own _ _ = Other

-- how the server ended the stream on a connection: not, by an error, or with its footer alone
pub data Ending : Type 0 where
  Stands : Ending
  Errs : Cause → Ending
  Closes : Ending

abbrev pub tail_of : {A : Type 0} → Ending → List (DownWord A)
tail_of Stands = []
tail_of (Errs cause) = Err cause ∷ End ∷ []
tail_of Closes = End ∷ []

abbrev pub foot_of : {A : Type 0} → Bool → List (UpWord A)
foot_of false = []
foot_of true = Foot ∷ []

-- a connection: the client's last state on it and the server's last phase, its pipes, how the server ended it, whether
-- the client's footer is still under way, and whether its end was told to the server
pub record Conn (A : Type 0) : Type 0 where
  pub client : Client
  pub phase : Phase
  pub wires : Wires A
  pub ending : Ending
  pub footed : Bool
  pub gone : Bool

-- the connection is at this row of the table: its pipes, with what was lost of them, are the row's
pub record IsAt {A : Type 0} (s : Stage A) (c : Conn A) : Type 0 where
  pub client : c.client ≡ client_of s
  pub phase : c.phase ≡ phase_of s
  pub up : up_whole c.wires ≡ up_of s ++ foot_of c.footed
  pub down : down_whole c.wires ≡ down_of s ++ tail_of c.ending
