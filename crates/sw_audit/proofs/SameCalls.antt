-- Calls that are the same by the test are equal.
use Rattle.std.proofs.Common.{◌≡◌, ℕ, Bool, true, false, ◌&&◌, List, [], ◌∷◌, bytes_eq, refl, arith}
use Rattle.std.specs.Cmp.Lexicographic.{bytes_decides}
use Rattle.sw_data.specs.declared.exchange.Header.{Header}
use Rattle.sw_data.specs.declared.exchange.Op.{Op}
use Rattle.sw_data.specs.declared.exchange.Op.TheVariants as op
use Rattle.sw_data.specs.declared.exchange.Options.{Options}
use Rattle.sw_data.specs.declared.exchange.Request.{Request}
use Rattle.sw_data.specs.declared.exchange.Response.{Response}
use Rattle.sw_data.specs.declared.recordings.Call.{Call}
use Rattle.sw_data.specs.declared.recordings.Call.TheVariants as call
use Rattle.sw_data.specs.Sameness.{same_call, same_header, same_list, same_op, same_options, same_request, same_response, same_truth}

equal_bytes : (x y : List ℕ) → bytes_eq x y ≡ true → x ≡ y
equal_bytes x y is = (bytes_decides x y).0 is

equal_lists : {A : Type 0} (same : A → A → Bool) → ((x y : A) → same x y ≡ true → x ≡ y) → (xs ys : List A) → same_list same xs ys ≡ true → xs ≡ ys
equal_lists same sound [] [] is = refl
equal_lists same sound [] (y ∷ ys) is = cc
equal_lists same sound (x ∷ xs) [] is = cc
equal_lists same sound (x ∷ xs) (y ∷ ys) is =
    let a : same x y ≡ true = grind arith in
    let b : same_list same xs ys ≡ true = grind arith in
    cc (sound x y a, equal_lists same sound xs ys b)

ap2 : {A B C : Type 0} (f : A → B → C) {a c : A} {b d : B} → a ≡ c → b ≡ d → f a b ≡ f c d
ap2 f p q = cc

ap3 : {A B C D : Type 0} (f : A → B → C → D) {a d : A} {b e : B} {c g : C} → a ≡ d → b ≡ e → c ≡ g → f a b c ≡ f d e g
ap3 f p q r = cc

first : (a b : Bool) → (a && b) ≡ true → a ≡ true
first a b is = grind arith

second : (a b : Bool) → (a && b) ≡ true → b ≡ true
second a b is = grind arith

equal_truths : (x y : Bool) → same_truth x y ≡ true → x ≡ y
equal_truths true true is = refl
equal_truths true false is = cc
equal_truths false true is = cc
equal_truths false false is = refl

equal_header : (x y : Header) → same_header x y ≡ true → x ≡ y
equal_header x y is =
    let names = first (bytes_eq x.name y.name) (bytes_eq x.value y.value) is in
    let values = second (bytes_eq x.name y.name) (bytes_eq x.value y.value) is in
    ap2 {C = Header} (λ (name value : List ℕ). record { name = name; value = value }) (equal_bytes x.name y.name names) (equal_bytes x.value y.value values)

equal_headers : (x y : List Header) → same_list same_header x y ≡ true → x ≡ y
equal_headers = equal_lists same_header equal_header

equal_request : (x y : Request) → same_request x y ≡ true → x ≡ y
equal_request x y is =
    let methods : bytes_eq x.method y.method ≡ true = grind arith in
    let urls : bytes_eq x.url y.url ≡ true = grind arith in
    let headers : same_list same_header x.headers y.headers ≡ true = grind arith in
    ap3 {D = Request} (λ (method url : List ℕ) (lines : List Header). record { method = method; url = url; headers = lines }) (equal_bytes x.method y.method methods) (equal_bytes x.url y.url urls) (equal_headers x.headers y.headers headers)

equal_response : (x y : Response) → same_response x y ≡ true → x ≡ y
equal_response x y is =
    let statuses : x.status ≡ y.status = grind arith in
    let headers : same_list same_header x.headers y.headers ≡ true = grind arith in
    let bodies : bytes_eq x.body y.body ≡ true = grind arith in
    ap3 {D = Response} (λ (status : ℕ) (lines : List Header) (body : List ℕ). record { status = status; headers = lines; body = body }) statuses (equal_headers x.headers y.headers headers) (equal_bytes x.body y.body bodies)

equal_options : (x y : Options) → same_options x y ≡ true → x ≡ y
equal_options x y is =
    let search_is : same_truth x.ignore_search y.ignore_search ≡ true = grind arith in
    let method_is : same_truth x.ignore_method y.ignore_method ≡ true = grind arith in
    let vary_is : same_truth x.ignore_vary y.ignore_vary ≡ true = grind arith in
    ap3 {D = Options} (λ (a b c : Bool). record { ignore_search = a; ignore_method = b; ignore_vary = c }) (equal_truths x.ignore_search y.ignore_search search_is) (equal_truths x.ignore_method y.ignore_method method_is) (equal_truths x.ignore_vary y.ignore_vary vary_is)

equal_op : (x y : Op) → same_op x y ≡ true → x ≡ y
equal_op (op.Delete request options) (op.Delete other other_options) is =
    cc (equal_request request other (first (same_request request other) (same_options options other_options) is), equal_options options other_options (second (same_request request other) (same_options options other_options) is))
equal_op (op.Delete request options) (op.Put other response) is = cc
equal_op (op.Put request response) (op.Delete other options) is = cc
equal_op (op.Put request response) (op.Put other other_response) is =
    cc (equal_request request other (first (same_request request other) (same_response response other_response) is), equal_response response other_response (second (same_request request other) (same_response response other_response) is))

-- calls that are the same are equal
pub equal_calls : (x y : Call) → same_call x y ≡ true → x ≡ y
unfolding same_call
equal_calls call.SkipWaiting call.SkipWaiting is = refl
equal_calls call.SkipWaiting _ is = cc
equal_calls call.Claim call.Claim is = refl
equal_calls call.Claim _ is = cc
equal_calls call.Update call.Update is = refl
equal_calls call.Update _ is = cc
equal_calls (call.CacheOpen name) (call.CacheOpen other) is = cc (equal_bytes name other is)
equal_calls (call.CacheOpen name) _ is = cc
equal_calls (call.CacheDelete name) (call.CacheDelete other) is = cc (equal_bytes name other is)
equal_calls (call.CacheDelete name) _ is = cc
equal_calls (call.Put put) (call.Put other) is =
    let names : bytes_eq put.name other.name ≡ true = grind arith in
    let requests : same_request put.request other.request ≡ true = grind arith in
    let responses : same_response put.response other.response ≡ true = grind arith in
    ap3 {D = Call} (λ (name : List ℕ) (request : Request) (response : Response). call.Put (record { name = name; request = request; response = response })) (equal_bytes put.name other.name names) (equal_request put.request other.request requests) (equal_response put.response other.response responses)
equal_calls (call.Put put) _ is = cc
equal_calls (call.Delete asked) (call.Delete other) is =
    let names : bytes_eq asked.name other.name ≡ true = grind arith in
    let requests : same_request asked.request other.request ≡ true = grind arith in
    let options : same_options asked.options other.options ≡ true = grind arith in
    ap3 {D = Call} (λ (name : List ℕ) (request : Request) (o : Options). call.Delete (record { name = name; request = request; options = o })) (equal_bytes asked.name other.name names) (equal_request asked.request other.request requests) (equal_options asked.options other.options options)
equal_calls (call.Delete asked) _ is = cc
equal_calls (call.Batch asked) (call.Batch other) is =
    let names = first (bytes_eq asked.name other.name) (same_list same_op asked.operations other.operations) is in
    let operations = second (bytes_eq asked.name other.name) (same_list same_op asked.operations other.operations) is in
    ap2 {C = Call} (λ (name : List ℕ) (ops : List Op). call.Batch (record { name = name; operations = ops })) (equal_bytes asked.name other.name names) (equal_lists same_op equal_op asked.operations other.operations operations)
equal_calls (call.Batch asked) _ is = cc
equal_calls (call.AddAll asked) (call.AddAll other) is =
    let names = first (bytes_eq asked.name other.name) (same_list same_request asked.requests other.requests) is in
    let requests = second (bytes_eq asked.name other.name) (same_list same_request asked.requests other.requests) is in
    ap2 {C = Call} (λ (name : List ℕ) (rows : List Request). call.AddAll (record { name = name; requests = rows })) (equal_bytes asked.name other.name names) (equal_lists same_request equal_request asked.requests other.requests requests)
equal_calls (call.AddAll asked) _ is = cc
