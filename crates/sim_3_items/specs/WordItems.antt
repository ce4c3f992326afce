-- The item that each word of the links is, as this project's own ends put it. Counts are told modulo 2 ^ 32, and a
-- session
-- by its `previd` (XEP-0198, sections 4 and 5).
use Rattle.std.specs.Prelude.{ℕ, ◌%◌, ◌^◌, Bool, true, false, codes}
use Rattle.cl_login.specs.LoginRows.{client_header}
use Rattle.sm_resumption.specs.declared.answers.TheConstants.{RESUMABLE_SECONDS}
use Rattle.sim_3_items.specs.Identities.{Identity, Login, exchange_of, full_of}
use Rattle.sim_2_links.specs.Words.{Ack, Auth, Bind, Bound, Chal, Client, Conflict, Constraint, Down, DownWord, Enable, Enabled, End, Err, Failed, Feat, Foot, Hdr, Head, InAuth, InFeatures1, InHeader1, InResponse, Req, Resp, ResumeAt, Resumed, St, Succ, TooHigh, Up, UpWord}
use Rattle.im_replies.specs.Management.{ack_item, refused_item, request_item, resumable_item, resumed_item}
use Rattle.im_replies.specs.Requests.{bound_item}
use Rattle.im_replies.specs.Sasl.{challenge_item, success_item}
use Rattle.im_replies.specs.Streams.{error_item, header_item, login_features_item, session_features_item, too_high_item}
use Rattle.im_replies.specs.declared.conditions.StreamCondition.TheVariants as stream
use Rattle.im_requests.specs.Sessions.{bind_item, enable_item, resume_item}
use Rattle.sm_resumption.specs.Previds.{previd_of}
use Rattle.im_login.specs.Sasl.{auth_of, carrier}
use Rattle.auth_scram.specs.Exchange.{server_final_message}
use Rattle.im_stanza.specs.declared.conditions.Condition.TheVariants.{ItemNotFound}
use Rattle.xml_writer.specs.Items.{Closing, ItemOut, Opening, Whole}

-- a count as it is told
abbrev pub told_count : ℕ → ℕ
told_count n = n % 2 ^ 32

-- a word that the client puts on a connection with this login
abbrev pub up_item : Identity → Login → UpWord ItemOut → ItemOut
up_item who x Hdr = Opening (client_header who.domain)
up_item who x Auth = Whole (auth_of (codes "SCRAM-SHA-256") x.client.message)
up_item who x Resp = Whole (carrier (codes "response") x.reply.message)
up_item who x (ResumeAt p h) = resume_item (previd_of p) (told_count h)
up_item who x Bind = bind_item who.resource
up_item who x Enable = enable_item
up_item who x (Up (St z)) = z
up_item who x (Up Req) = request_item
up_item who x (Up (Ack h)) = ack_item (told_count h)
up_item who x Foot = Closing

-- the client is behind its login: the features that it awaits, or has read, are those of the second stream
abbrev pub is_after_login : Client → Bool
is_after_login InHeader1 = false
is_after_login InFeatures1 = false
is_after_login InAuth = false
is_after_login InResponse = false
is_after_login _ = true

abbrev pub features_item : Bool → ItemOut
features_item true = session_features_item
features_item false = login_features_item

-- A word that the server puts on the connection with this number. A count that is too high is stated on connections
-- alone
-- that the client left, where nothing comes to it: that word stands for no item in particular.
abbrev pub down_item : Identity → Login → ℕ → Bool → DownWord ItemOut → ItemOut
down_item who x k following Head = header_item who.domain k x.yours
down_item who x k following Feat = features_item following
down_item who x k following Chal = challenge_item (exchange_of who x).message
down_item who x k following Succ = success_item (server_final_message x.reply.verifier)
down_item who x k following Failed = refused_item ItemNotFound
down_item who x k following (Resumed p h) = resumed_item p (told_count h)
down_item who x k following (Bound m) = bound_item (codes "bind") (full_of who)
down_item who x k following (Enabled m) = resumable_item m RESUMABLE_SECONDS
down_item who x k following (Down (St z)) = z
down_item who x k following (Down Req) = request_item
down_item who x k following (Down (Ack h)) = ack_item (told_count h)
down_item who x k following (Err Conflict) = error_item stream.Conflict
down_item who x k following (Err Constraint) = error_item stream.ResourceConstraint
down_item who x k following (Err TooHigh) = too_high_item 0 0
down_item who x k following End = Closing
