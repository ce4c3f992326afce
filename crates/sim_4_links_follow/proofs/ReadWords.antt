-- What the server reads of the items that a client puts.
use Rattle.std.proofs.Common.{◌≡◌, ℕ, ◌<◌, ◌^◌, true, List, Some, Ok, codes, refl}
use Rattle.base_lemmas.proofs.Bytes.{bytes_eq-self}
use Rattle.cl_login.specs.LoginRows.{client_header}
use Rattle.srv_state.specs.Words.{is_bad_management, is_bad_sasl, management_word, resume_word, sasl_word, word_of}
use Rattle.srv_state.specs.declared.word.Word.TheVariants as word
use Rattle.im_extensions.specs.StreamManagement.{ack_elem, enable_elem, resume_elem}
use Rattle.law_xml.specs.Spells.{as_written}
use Rattle.im_jid.specs.Normal.{normal}
use Rattle.srv_login.specs.Headers.{header_answer, is_host}
use Rattle.srv_login.specs.declared.header_judgement.HeaderAnswer.TheVariants.{Opens}
use Rattle.im_payload.specs.Bare.{bare}
use Rattle.im_payload.specs.Names.{management, sasl}
use Rattle.im_login.specs.Sasl.{auth_of, carrier}
use Rattle.law_payloads.proofs.ManagementWritten.{number_again}

-- ---- headers

same_host : (domain : List ℕ) → normal domain ≡ Ok domain → is_host domain (Some domain) ≡ true
same_host domain is = rw is (bytes_eq-self domain)

pub header_opens : (domain : List ℕ) → normal domain ≡ Ok domain → header_answer domain (as_written (client_header domain)) ≡ Opens
header_opens domain is = let host = same_host domain is in rw host refl

-- ---- logins

pub auth_word : (mechanism message : List ℕ) → word_of (auth_of mechanism message) ≡ word.Auth (auth_of mechanism message) (is_bad_sasl (auth_of mechanism message))
unfolding word_of is_bad_management management_word resume_word sasl_word sasl
auth_word mechanism message = refl

pub response_word : (message : List ℕ) → word_of (carrier (codes "response") message) ≡ word.Response (carrier (codes "response") message) (is_bad_sasl (carrier (codes "response") message))
unfolding word_of is_bad_management management_word resume_word sasl_word sasl
response_word message = refl

-- ---- stream management

pub request_word : word_of (bare management (codes "r")) ≡ word.Request
unfolding word_of is_bad_management management_word
request_word = refl

pub enable_word : word_of (enable_elem (record { resume = true })) ≡ word.Enable true
unfolding word_of is_bad_management management_word
enable_word = refl

pub ack_word : (n : ℕ) → n < 2 ^ 32 → word_of (ack_elem (record { h = n })) ≡ word.Ack n
unfolding word_of is_bad_management management_word
ack_word n low = let again = number_again n low in rw again refl

pub resume_is_word : (previd : List ℕ) (n : ℕ) → n < 2 ^ 32 → word_of (resume_elem (record { previd = previd; h = n })) ≡ word.Resume previd n
unfolding word_of is_bad_management management_word resume_word
resume_is_word previd n low = let again = number_again n low in rw again refl
