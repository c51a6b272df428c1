-- The page of the console, and the policy by which a browser takes nothing else (W3C, Content Security Policy Level 3).
-- Made of `console/console.html` by `tools/embed_console.py`.
use Rattle.std.specs.Prelude.{ℕ, List, codes}

unfoldable pub page_text : List ℕ
page_text = codes "<!doctype html>\n<html lang=\"en\">\n<head>\n<meta charset=\"utf-8\">\n<meta name=\"viewport\" content=\"width=device-width,initial-scale=1\">\n<title>flagops</title>\n<link rel=\"icon\" href=\"data:image/svg+xml,%3Csvg xmlns='http://www.w3.org/2000/svg' viewBox='0 0 16 16'%3E%3Crect width='16' height='16' rx='3' fill='%230b5cad'/%3E%3Cpath fill='%23fff' d='M3 4h10v3H3z'/%3E%3Cpath fill='%23f0c060' d='M3 9h4v3H3z'/%3E%3C/svg%3E\">\n<style>\n:root{color-scheme:light dark;--paper:#f7f7f5;--card:#fff;--ink:#1a1c1e;--soft:#585d63;--line:#d9dbdd;--field:#fff;--mark:#0b5cad;--mark-ink:#fff;--bad:#a3200d;--warn:#7a5200;--good:#1c6b3c;--added:#e4f4e8;--gone:#fbe9e6}\n@media(prefers-color-scheme:dark){:root{--paper:#131516;--card:#1c1f21;--ink:#f1f2f3;--soft:#aeb4ba;--line:#3b4146;--field:#131516;--mark:#8cc4f5;--mark-ink:#0c1a26;--bad:#ff9a8a;--warn:#f0c060;--good:#7fd6a0;--added:#16301f;--gone:#3a1c18}}\n*{box-sizing:border-box}\nbody{margin:0;font:16px/1.5 system-ui,\"Segoe UI\",Roboto,\"Noto Sans\",Arial,sans-serif;background:var(--paper);color:var(--ink)}\n.skip{position:absolute;left:-999px}.skip:focus{left:8px;top:8px;background:var(--card);padding:8px;z-index:2}\nheader{background:var(--card);border-bottom:1px solid var(--line)}\nheader>div,main{max-width:1440px;margin:0 auto;padding:0 24px}\nheader>div{display:flex;flex-wrap:wrap;gap:4px 20px;align-items:center;min-height:60px}\nmain{padding-top:20px;padding-bottom:56px}\nmain:focus{outline:none}\nh1{font-size:1.2rem;margin:0;letter-spacing:-.01em}h2{font-size:1.5rem;line-height:1.25;margin:0 0 4px;letter-spacing:-.015em;overflow-wrap:anywhere}h3{font-size:1rem;margin:0 0 10px}\nh2:focus-visible{outline:none}\na{color:var(--mark);text-underline-offset:3px}\nnav a{display:inline-block;color:var(--soft);text-decoration:none;padding:17px 8px 14px;border-bottom:3px solid transparent}\nnav a:hover{color:var(--ink)}nav a[aria-current]{color:var(--ink);font-weight:600;border-color:var(--mark)}\n.aside{margin-left:auto;display:flex;flex-wrap:wrap;gap:4px 20px;align-items:center}\nbutton,input{font:inherit;color:inherit;background:var(--field);border:1px solid var(--line);border-radius:8px;padding:7px 12px;max-width:100%}\nbutton{cursor:pointer;background:var(--card)}button:hover:enabled{border-color:var(--mark)}\nbutton.main{background:var(--mark);border-color:var(--mark);color:var(--mark-ink);font-weight:600}\nbutton:disabled{opacity:.5;cursor:default}\ninput[type=number]{width:6.5em;font-variant-numeric:tabular-nums}input[type=range]{margin:0;padding:0;border:0;background:none;accent-color:var(--mark);width:100%;min-width:60px}\ninput[type=range]{display:block;height:24px}input[type=checkbox]{width:20px;height:20px;accent-color:var(--mark);vertical-align:middle;margin:0}\n:focus-visible{outline:3px solid var(--mark);outline-offset:2px}\n.card{background:var(--card);border:1px solid var(--line);border-radius:12px;padding:18px 20px;margin:0 0 16px;min-width:0}\n.two{display:grid;grid-template-columns:minmax(0,5fr) minmax(0,7fr);grid-template-rows:auto 1fr;gap:0 16px;align-items:start}\n.right{grid-column:2;grid-row:1/3}\n.row{display:flex;flex-wrap:wrap;gap:8px 12px;align-items:center;margin:12px 0}.row:last-child{margin-bottom:0}\n.scroll{overflow-x:auto}.scroll,pre{scrollbar-width:thin;scrollbar-color:var(--soft) transparent}\ntable{border-collapse:collapse;width:100%}\nth{font-weight:600;font-size:.875rem;color:var(--soft)}tbody th{color:var(--ink);font-size:1rem;min-width:6em}\nth,td{text-align:left;padding:9px 12px 9px 0;border-bottom:1px solid var(--line);vertical-align:middle;overflow-wrap:anywhere}\nth .soft{font-weight:400}thead th{overflow-wrap:normal}tbody tr:last-child>*{border-bottom:0}th:last-child,td:last-child{padding-right:0}\n.mono{font:.875rem/1.5 ui-monospace,\"DejaVu Sans Mono\",Menlo,Consolas,monospace;white-space:pre-wrap}\n.n{text-align:right;font-variant-numeric:tabular-nums;white-space:nowrap;padding-right:28px}\n.sr{position:absolute;width:1px;height:1px;overflow:hidden;clip-path:inset(50%);white-space:nowrap}\n#key,#percents{margin-left:6px}#rates:empty{display:none}\n.soft{color:var(--soft)}.bad{color:var(--bad)}.warn{color:var(--warn)}.small{font-size:.875rem}\n.chips{display:flex;flex-wrap:wrap;gap:6px 8px;margin:6px 0 16px}\n.chip{display:inline-block;font-size:.8125rem;line-height:1.5;border:1px solid var(--line);border-radius:99px;padding:1px 10px;background:var(--card);white-space:nowrap}\n.chip.on{color:var(--good);border-color:currentColor}.chip.bad,.chip.warn{border-color:currentColor}\npre{background:var(--paper);border:1px solid var(--line);border-radius:8px;padding:12px;margin:0;overflow:auto;max-height:26em;white-space:pre-wrap;overflow-wrap:anywhere;font:.875rem/1.5 ui-monospace,\"DejaVu Sans Mono\",Menlo,Consolas,monospace}\npre span{display:block;padding:0 4px}pre .added{background:var(--added)}pre .gone{background:var(--gone)}\nsummary{cursor:pointer;font-weight:600;padding:4px 0}details{margin:8px 0}\n.bar{display:flex;width:100%;height:34px;border-radius:6px;overflow:hidden;border:1px solid var(--line)}\n.bar.thin{height:12px;border-radius:4px;min-width:90px}\n.bar div{min-width:0;overflow:hidden;color:#10151a;font-size:.8125rem;font-weight:600;line-height:32px;border-right:1px solid #fff8;container-type:inline-size}\n.bar span{display:block;overflow:hidden;padding-left:8px;white-space:nowrap;text-overflow:ellipsis}@container(max-width:36px){.bar span{display:none}}\n.bar.thin div{border:0}\n.counts{display:flex;align-items:flex-end;height:64px;margin-top:6px;border-bottom:1px solid var(--line)}\n.counts div{flex:1 1 0;min-width:0;background:var(--soft)}\n.ends{display:flex;flex-wrap:wrap;justify-content:space-between;gap:0 12px}\n.v0{background:#e69f00}.v1{background:#56b4e9}.v2{background:#009e73}.v3{background:#f0e442}.v4{background:#3f7fd0}.v5{background:#d55e00}.v6{background:#cc79a7}.v7{background:#a0a0a0}\n.swatch{display:inline-block;flex:none;width:14px;height:14px;border-radius:4px;vertical-align:-2px;margin-right:8px}\n.figures{display:flex;flex-wrap:wrap;gap:8px 40px}.figures>div{max-width:20em}.figures b{display:block;font-size:2.5rem;line-height:1.15;font-weight:650;font-variant-numeric:tabular-nums;letter-spacing:-.02em}\n.figures .second b{color:var(--soft)}\n#outcome{margin:8px 0 0}#passed:empty,#sources:empty{display:none}#result[aria-busy=true] .fades{opacity:.45}\n#result[aria-busy=true] h3::after{content:\" \\2014  planning\";font-weight:400;color:var(--soft);animation:later 1s step-end}@keyframes later{from{opacity:0}}\n.picture{width:100%;height:auto;display:block;border:1px solid var(--line);border-radius:8px;margin-top:14px}\n#history-rows a{overflow-wrap:break-word}.whole{white-space:nowrap}\n#message:empty{display:none}#message{margin:0 0 16px;padding:10px 14px;border:1px solid var(--line);border-radius:8px;background:var(--card)}#message.bad{border-color:currentColor}\ndialog{border:1px solid var(--line);border-radius:12px;background:var(--card);color:var(--ink);max-width:min(92vw,480px);padding:20px 24px}dialog::backdrop{background:#0008}\n.empty{padding:28px 0;text-align:center;color:var(--soft)}\n#message button{margin-left:8px}\n[hidden]{display:none!important}\n@media(max-width:900px){.two{grid-template-columns:minmax(0,1fr)}.right{grid-column:1;grid-row:auto}}\n@media(max-width:600px){header>div,main{padding-left:14px;padding-right:14px}header .aside{padding-bottom:8px}label.aside{margin-left:0;width:100%}label.aside input{flex:1}.wide{display:none}.picture{min-width:620px}.card{padding:14px}#total-rows tr{display:grid;grid-template-columns:1fr auto;gap:0 12px;align-items:center;border-bottom:1px solid var(--line);padding:8px 0}#total-rows tr>*{border:0;padding:3px 0}#total-rows tr>td:nth-child(3){text-align:right}#total-rows .slide{grid-column:1/-1}.totals thead,#history-table thead{display:none}.totals,#total-rows,#history-table,#history-rows{display:block}#history-rows tr{display:grid;grid-template-columns:1fr auto;gap:0 12px;border-bottom:1px solid var(--line);padding:8px 0}#history-rows tr:last-child{border:0}#history-rows td{border:0;padding:3px 0}#history-rows td:nth-child(2){grid-area:1/1}#history-rows td:nth-child(3){grid-area:1/2;padding-right:0}#history-rows td:first-child{grid-area:2/1/3/3;font-size:.875rem;color:var(--soft)}#history-rows td:last-child{grid-area:3/1/4/3}.figures{display:grid;grid-template-columns:1fr 1fr;gap:8px 20px}.figures b{font-size:2rem}.ends span:nth-child(2){order:3;width:100%}}\n@media(min-width:601px){.narrow{display:none}}\n</style>\n</head>\n<body>\n<a class=\"skip\" href=\"#main\">To the content</a>\n<header><div>\n  <h1>flagops</h1>\n  <nav aria-label=\"Pages\"><a id=\"go-flags\" href=\"#flags\">Flags</a> <a id=\"go-history\" href=\"#history\">History</a></nav>\n  <div class=\"aside\"><span class=\"soft small\" id=\"rates\"></span><span class=\"soft small\" id=\"sources\"></span><span class=\"soft small\" id=\"snapshot\"></span>\n  <label class=\"small\" id=\"key-field\" hidden>Key <input id=\"key\" type=\"password\" autocomplete=\"off\" size=\"16\"></label></div>\n</div></header>\n<main id=\"main\" tabindex=\"-1\">\n  <p id=\"message\" role=\"status\"></p>\n  <section id=\"flags\" aria-labelledby=\"flags-title\">\n    <div class=\"row\"><h2 id=\"flags-title\" tabindex=\"-1\">Flags</h2><span id=\"shown\" class=\"soft\" role=\"status\"></span>\n    <label class=\"aside\">Search <input id=\"search\" type=\"search\" size=\"18\"></label></div>\n    <div class=\"card\" id=\"flag-card\" hidden><div class=\"scroll\"><table><thead><tr><th scope=\"col\">Flag</th><th scope=\"col\" class=\"wide\">State</th><th scope=\"col\" class=\"wide\">Type</th><th scope=\"col\" class=\"wide\">Rollout</th><th scope=\"col\" class=\"wide\">Points</th><th scope=\"col\" class=\"n wide\">Recorded</th><th scope=\"col\" class=\"wide\">Default</th></tr></thead><tbody id=\"flag-rows\"></tbody></table></div>\n    <p id=\"none-found\" class=\"empty\" hidden>No flag has this in its key.</p>\n    <button id=\"more\" type=\"button\" hidden>Show more</button></div>\n  </section>\n  <section id=\"flag\" aria-labelledby=\"flag-title\" hidden>\n    <p class=\"small\"><a href=\"#flags\">Flags</a></p>\n    <h2 id=\"flag-title\" tabindex=\"-1\"></h2>\n    <div id=\"flag-chips\" class=\"chips\"></div>\n    <div id=\"flag-notes\"></div>\n    <div id=\"sites\"></div>\n    <div id=\"flag-parts\" class=\"two\">\n      <div class=\"card\"><h3>Variants</h3><div class=\"scroll\"><table><thead><tr><th scope=\"col\">Name</th><th scope=\"col\">Value</th></tr></thead><tbody id=\"variant-rows\"></tbody></table></div></div>\n      <div class=\"card\"><h3>Targeting</h3><pre id=\"targeting\" tabindex=\"0\" aria-label=\"Targeting\"></pre></div>\n    </div>\n  </section>\n  <section id=\"rollout\" aria-labelledby=\"rollout-title\" hidden>\n    <p class=\"small\"><a href=\"#flags\">Flags</a> / <a id=\"rollout-flag\" href=\"#flags\"></a></p>\n    <h2 id=\"rollout-title\" tabindex=\"-1\"></h2>\n    <p class=\"soft\" id=\"rollout-about\"></p>\n    <div class=\"two\">\n      <form id=\"form\" autocomplete=\"off\">\n        <div class=\"card\"><h3>Points wanted</h3>\n          <div class=\"scroll\"><table class=\"totals\"><thead><tr><th scope=\"col\">Variant</th><th scope=\"col\" class=\"n\">Now</th><th scope=\"col\">Wanted</th><th scope=\"col\"><span class=\"wide\">&nbsp;</span></th><th scope=\"col\">Nobody loses it</th></tr></thead><tbody id=\"total-rows\"></tbody></table></div>\n          <p id=\"sum\" class=\"soft small\" role=\"status\"></p>\n          <details><summary>Changes that are not allowed</summary><p class=\"soft small\">Tick a change, and no user makes it.</p><div class=\"scroll\"><table id=\"forbid\"></table></div></details>\n          <details><summary>Prices</summary><p class=\"soft small\">What a user costs who gets another variant, 0 to 1,000,000. The plan costs the least.</p><label class=\"row\">Each change <input id=\"price\" type=\"number\" min=\"0\" max=\"1000000\" value=\"1\"></label><div class=\"scroll\"><table id=\"prices\"></table></div></details>\n        </div>\n      </form>\n      <div class=\"right\">\n        <div class=\"card\" id=\"result\"><h3>What it does</h3>\n          <div class=\"fades\"><div id=\"figures\" class=\"figures\" aria-hidden=\"true\"></div></div>\n          <p id=\"outcome\" role=\"status\"></p>\n          <p id=\"passed\" class=\"warn small\" role=\"status\"></p>\n          <div class=\"fades\">\n            <div class=\"scroll\"><table id=\"switch-table\" hidden><thead><tr><th scope=\"col\">From</th><th scope=\"col\">To</th><th scope=\"col\" class=\"n\">Users</th></tr></thead><tbody id=\"switch-rows\"></tbody></table></div>\n            <div class=\"scroll\" id=\"picture-place\" tabindex=\"0\" role=\"group\" aria-label=\"Picture\" hidden><img id=\"picture\" class=\"picture\" alt=\"\"></div>\n            <details id=\"words-fold\" hidden><summary>In words</summary><pre id=\"words\" tabindex=\"0\" aria-label=\"In words\"></pre></details>\n          </div>\n          <div class=\"row\">\n            <button id=\"show-diff\" type=\"button\" class=\"main\" disabled>Show what changes</button>\n            <button id=\"download\" type=\"button\" disabled>Download the document</button>\n          </div>\n          <div class=\"row small\"><span class=\"soft\">Copy</span>\n            <button id=\"copy-request\" type=\"button\">the request</button>\n            <button id=\"copy-plan\" type=\"button\" disabled>the plan</button>\n            <button id=\"copy-line\" type=\"button\">the command line</button><span id=\"copied\" class=\"soft\" role=\"status\"></span>\n          </div>\n        </div>\n        <div class=\"card\" id=\"change\" hidden><h3>What changes in the document</h3>\n          <pre id=\"diff\" tabindex=\"0\" aria-label=\"What changes in the document\"></pre>\n          <div class=\"row\"><button id=\"apply\" type=\"button\" class=\"main\" disabled>Apply</button><span id=\"apply-why\" class=\"soft small\"></span></div>\n        </div>\n      </div>\n      <div class=\"card\"><h3>In steps</h3><p class=\"soft small\">What a part of the way would do to the users of today.</p>\n        <div class=\"row\"><label>Percent <input id=\"percents\" value=\"10, 25, 50, 100\" size=\"16\"></label><button id=\"steps\" type=\"button\">Plan each step</button></div>\n        <div id=\"step-list\"></div>\n      </div>\n    </div>\n  </section>\n  <section id=\"history\" aria-labelledby=\"history-title\" hidden>\n    <div class=\"row\"><h2 id=\"history-title\" tabindex=\"-1\">History</h2></div>\n    <div class=\"card\" id=\"history-card\" hidden><div class=\"scroll\"><table id=\"history-table\"><thead><tr><th scope=\"col\">Applied</th><th scope=\"col\">Flag</th><th scope=\"col\" class=\"n\">Cost</th><th scope=\"col\" class=\"n wide\">Of recorded</th><th scope=\"col\" class=\"wide\">By</th><th scope=\"col\">Going back now</th></tr></thead><tbody id=\"history-rows\"></tbody></table></div>\n    <p id=\"history-none\" class=\"empty\" hidden>Nothing was applied yet.</p></div>\n  </section>\n</main>\n<dialog id=\"sure\" aria-labelledby=\"sure-title\"><h3 id=\"sure-title\">Apply this plan?</h3><p id=\"sure-text\"></p><label class=\"row\">Your name, for the history <input id=\"who\" autocomplete=\"name\" maxlength=\"80\" size=\"24\"></label><div class=\"row\"><button id=\"apply-yes\" type=\"button\" class=\"main\">Apply</button><button id=\"apply-no\" type=\"button\" autofocus>Not now</button></div></dialog>\n<script>\n\"use strict\";\nconst $ = (id) => document.getElementById(id);\nconst PAGE = 200, PAUSE = 250, RATE_SECONDS = 15, TRIES = 20, LONG = 400, AROUND = 80;\nlet flags = [], sources = [], snapshot = 0, mayApply = false, shown = PAGE, site = null, turn = 0, timer = 0, answer = null, counted = null;\n\n// An element with attributes and children; texts are never read as markup.\nfunction make(tag, attributes, ...children) {\n  const element = document.createElement(tag);\n  for (const [name, value] of Object.entries(attributes || {})) {\n    if (name.startsWith(\"on\")) element.addEventListener(name.slice(2), value);\n    else if (value === true) element.setAttribute(name, \"\");\n    else if (value !== false && value != null) element.setAttribute(name, value);\n  }\n  element.append(...children.filter((child) => child != null));\n  return element;\n}\nconst cell = (...children) => make(\"td\", {}, ...children);\nconst wide = (...children) => make(\"td\", { class: \"wide\" }, ...children);\nconst spelled = (n) => n.toLocaleString(\"en\");\nconst number = (n, kind) => make(\"td\", { class: kind ? `n ${kind}` : \"n\" }, n == null ? \"\" : spelled(n));\nconst plural = (n, word) => `${spelled(n)} ${word}${n === 1 ? \"\" : \"s\"}`;\nconst chip = (text, kind) => make(\"span\", { class: `chip ${kind || \"\"}` }, text);\nconst sentence = (text) => text && text[0].toUpperCase() + text.slice(1) + (/[.!?]$/.test(text) ? \"\" : \".\");\nconst say = (text, bad) => { $(\"message\").textContent = text; $(\"message\").className = bad ? \"bad\" : \"\"; };\n\nasync function call(method, path, body, headers = {}) {\n  if (body !== undefined) headers[\"Content-Type\"] = \"application/json\";\n  if ($(\"key\").value) headers.Authorization = `Bearer ${$(\"key\").value}`;\n  let response, text;\n  try {\n    response = await fetch(path, { method, headers, body, cache: \"no-store\" });\n    text = await response.text();\n  } catch { throw new Error(\"The service does not answer.\"); }\n  if (response.ok) return { text, headers: response.headers };\n  if (response.status === 401) { $(\"key-field\").hidden = false; $(\"key\").focus(); throw new Error(\"The service asks for a key: put it in above.\"); }\n  let why;\n  try { why = JSON.parse(text); } catch { why = {}; }\n  const error = new Error(sentence((why.details || why.errorDetails || \"\").trim()) || (why.refused ? `${why.refused} ${why.number} ${why.name}` : `The service answers ${response.status}.`));\n  error.status = response.status;\n  throw error;\n}\n// Calls on what is recorded go one after another, as the service answers one at a time; where it is busy with another's, they are made again.\nlet last = Promise.resolve();\nconst inTurn = (act) => (last = last.then(act, act));\nconst calmly = (...words) => inTurn(async () => {\n  for (let tries = 1; ; tries += 1) {\n    try { return await call(...words); } catch (error) {\n      if (error.status !== 503) throw error;\n      if (tries === TRIES) throw new Error(\"The service is busy with other plans. Try again in a moment.\");\n    }\n    await new Promise((go) => setTimeout(go, 1000));\n  }\n});\nconst planOf = async (request) => JSON.parse((await calmly(\"POST\", \"plan\", JSON.stringify(request))).text);\nconst hasRule = (reply) => \"rule\" in reply.plan;\n\n// ---- pages\nconst PAGES = [\"flags\", \"flag\", \"rollout\", \"history\"];\nfunction show(page, focus) {\n  for (const one of PAGES) $(one).hidden = one !== page;\n  for (const one of [\"flags\", \"history\"]) {\n    if (one === page || (one === \"flags\" && page !== \"history\")) $(`go-${one}`).setAttribute(\"aria-current\", \"page\"); else $(`go-${one}`).removeAttribute(\"aria-current\");\n  }\n  scrollTo(0, 0);\n  if (focus) $(focus).focus({ preventScroll: true });\n}\nfunction route() {\n  const [page, key, at] = location.hash.slice(1).split(\"/\").map(decodeURIComponent);\n  say(\"\");\n  clearTimeout(timer);\n  turn += 1;\n  site = null;\n  if (page === \"history\") return openHistory();\n  const flag = flags.find((one) => one.key === key);\n  if (page === \"flag\" && flag) return openFlag(flag);\n  const one = flag && flag.sites.find((it) => String(it.site) === at);\n  if (page === \"rollout\" && one && one.rule) return openRollout(flag, one);\n  show(\"flags\");\n}\nconst link = (...parts) => `#${parts.map(encodeURIComponent).join(\"/\")}`;\n\n// ---- flags\n// Numbers that this script would spell otherwise are kept as texts with a mark, and shown as they came.\nconst MARK = \"\\uFDD0\";\nconst parsed = (text) => JSON.parse(text.replace(/\"(?:[^\"\\\\]|\\\\.)*\"|-?\\d[\\d.eE+-]*/g, (token) => (token[0] === '\"' || String(Number(token)) === token ? token : `\"${MARK}${token}\"`)));\n// A value as JSON: in one line where it is short, else indented.\nfunction printed(value, indent = \"\", width = 72) {\n  const whole = typeof value === \"string\" && value[0] === MARK ? value.slice(1) : JSON.stringify(value);\n  if (value === null || typeof value !== \"object\") return whole;\n  const inner = indent + \"  \", list = Array.isArray(value);\n  const parts = list ? value.map((one) => printed(one, inner, width)) : Object.entries(value).map(([name, one]) => `${JSON.stringify(name)}: ${printed(one, inner, width)}`);\n  const line = list ? `[${parts.join(\", \")}]` : parts.length ? `{ ${parts.join(\", \")} }` : \"{}\";\n  if (!line.includes(\"\\n\") && indent.length + line.length <= width) return line;\n  return `${list ? \"[\" : \"{\"}\\n${parts.map((part) => inner + part).join(\",\\n\")}\\n${indent}${list ? \"]\" : \"}\"}`;\n}\n\n// The flags of an answer, each with what the answer says of it elsewhere.\nconst DOUBTS = { Weight: \"weights that give nobody a variant\", Variant: \"its targeting can give what is no variant\", Never: \"its targeting never gives a variant\" };\nconst KINDS = { bool: \"boolean\", text: \"text\", whole: \"whole number\", float: \"number\", object: \"object\" };\nfunction flagsOf(all) {\n  const sites = new Map(), doubts = new Map(), kinds = new Map(all.kinds), broken = new Map();\n  const add = (map, key, one) => { if (map.has(key)) map.get(key).push(one); else map.set(key, [one]); };\n  for (const one of all.sites) add(sites, one.flag, one);\n  for (const [key, name] of all.doubts) add(doubts, key, DOUBTS[name] || name);\n  for (const line of all.remarks.split(\"\\n\")) {\n    const found = /^broken: flags(?:\\.([\\w-]+)|\\[(\"(?:[^\"\\\\]|\\\\.)*\")\\])\\.?(.*)$/.exec(line);\n    if (found) broken.set(found[1] === undefined ? JSON.parse(found[2]) : found[1], found[3].trim());\n  }\n  return Object.entries(all.merged.flags).map(([key, definition]) => ({\n    key, state: definition.state, kind: KINDS[kinds.get(key)], default: definition.defaultVariant, variants: definition.variants || {}, targeting: definition.targeting, sites: sites.get(key) || [], doubts: doubts.get(key) || [],\n    broken: definition.variants ? null : broken.get(key) || \"It can't be read.\",\n  }));\n}\n// Reads the flags that are served now.\nasync function read() {\n  const all = parsed((await calmly(\"GET\", \"flags\")).text);\n  const rank = (flag) => (flag.broken ? 0 : flag.doubts.length ? 1 : 2);\n  flags = flagsOf(all).sort((a, b) => rank(a) - rank(b) || (a.key < b.key ? -1 : a.key > b.key ? 1 : 0));\n  ({ may_apply: mayApply, sources, snapshot } = all);\n  $(\"sources\").textContent = sources.length > 3 ? plural(sources.length, \"document\") : sources.map(fileName).join(\", \");\n  $(\"sources\").title = sources.join(\"\\n\");\n  $(\"snapshot\").textContent = `Snapshot ${snapshot}`;\n  list();\n}\nasync function load() {\n  $(\"shown\").textContent = \"reading what is recorded\\u2026\";\n  try {\n    await read();\n    route();\n  } catch (error) { say(error.message, true); $(\"shown\").textContent = \"\"; }\n}\nconst named = (key) => key || '\"\"';\nconst shade = (names, name) => `v${Math.max(0, names.indexOf(name)) % 8}`;\nconst namesOf = (flag, rule) => [...new Set([...Object.keys(flag.variants), ...(rule || []).map(([name]) => name)])].sort((a, b) => (a < b ? -1 : a > b ? 1 : 0));\nconst shareOf = (rule) => {\n  const totals = new Map();\n  for (const [name, weight] of rule) totals.set(name, (totals.get(name) || 0) + weight);\n  return totals;\n};\nfunction barOf(flag, rule, thin) {\n  const names = namesOf(flag, rule), totals = shareOf(rule), all = [...totals.values()].reduce((sum, n) => sum + n, 0);\n  const parts = [...totals].map(([name, points]) => `${name} ${spelled(points)}`).join(\", \");\n  const bar = make(\"div\", { class: thin ? \"bar thin\" : \"bar\", role: \"img\", \"aria-label\": `${parts}, of ${plural(all, \"point\")}`, title: parts });\n  for (const [name, weight] of thin ? totals : rule) {\n    const piece = make(\"div\", { class: shade(names, name), title: `${name}: ${spelled(weight)}` }, thin ? null : make(\"span\", {}, name));\n    piece.style.flex = `${weight} ${weight} 0`;\n    bar.append(piece);\n  }\n  return bar;\n}\nfunction badge(flag) {\n  if (flag.broken) return chip(\"broken\", \"bad\");\n  if (flag.doubts.length) return chip(\"doubtful\", \"warn\");\n  return flag.state === \"DISABLED\" ? chip(\"disabled\") : chip(\"enabled\", \"on\");\n}\nfunction list() {\n  const wanted = $(\"search\").value.toLowerCase();\n  const found = flags.filter((flag) => flag.key.toLowerCase().includes(wanted));\n  $(\"flag-rows\").replaceChildren(...found.slice(0, shown).map((flag) => {\n    const first = flag.sites.find((one) => one.rule), points = first ? [...shareOf(first.rule)].map(([name, n]) => `${name} ${spelled(n)}`).join(\", \") : \"\";\n    const why = flag.broken || flag.doubts.join(\"; \");\n    return make(\"tr\", {},\n      cell(make(\"a\", { href: link(\"flag\", flag.key) }, named(flag.key)), make(\"span\", { class: \"narrow\" }, \" \", badge(flag)), why ? make(\"div\", { class: flag.broken ? \"bad small\" : \"warn small\" }, why) : null, points ? make(\"div\", { class: \"narrow soft small\" }, first.inputs == null ? points : `${points}; ${plural(first.inputs, \"recorded user\")}`) : null),\n      wide(badge(flag)), wide(flag.kind || \"\"), wide(first ? barOf(flag, first.rule, true) : \"\"), wide(points),\n      number(first && first.inputs, \"wide\"), wide(flag.default == null ? \"\" : flag.default));\n  }));\n  $(\"shown\").textContent = found.length === flags.length ? plural(found.length, \"flag\") : `${spelled(found.length)} of ${plural(flags.length, \"flag\")}`;\n  $(\"none-found\").hidden = found.length > 0 || !flags.length;\n  $(\"more\").hidden = found.length <= shown;\n  $(\"flag-card\").hidden = false;\n}\nfunction openFlag(flag) {\n  $(\"flag-title\").textContent = named(flag.key);\n  $(\"flag-chips\").replaceChildren(badge(flag), ...[flag.kind, flag.default == null ? null : `default ${flag.default}`].filter(Boolean).map((text) => chip(text)));\n  const notes = flag.broken ? [flag.broken] : flag.doubts;\n  $(\"flag-notes\").replaceChildren(...(notes.length ? [make(\"div\", { class: `card ${flag.broken ? \"bad\" : \"warn\"}` }, make(\"h3\", {}, flag.broken ? \"This flag is broken\" : \"Doubtful\"), ...notes.map((text) => make(\"p\", { class: \"small\" }, text)))] : []));\n  $(\"variant-rows\").replaceChildren(...Object.entries(flag.variants).map(([name, value]) => make(\"tr\", {}, make(\"th\", { scope: \"row\" }, make(\"span\", { class: `swatch ${shade(namesOf(flag), name)}` }), name), make(\"td\", { class: \"mono\" }, printed(value, \"\", 40)))));\n  $(\"targeting\").textContent = flag.targeting == null ? \"none\" : printed(flag.targeting);\n  $(\"flag-parts\").hidden = Boolean(flag.broken);\n  $(\"sites\").replaceChildren(...flag.sites.map((one) => siteOf(flag, one)));\n  show(\"flag\", \"flag-title\");\n}\nfunction siteOf(flag, one) {\n  const by = one.by == null ? \"the flag's key and the targeting key\" : one.by;\n  const box = make(\"div\", { class: \"card\" }, make(\"h3\", {}, flag.sites.length > 1 ? `Rollout ${one.site + 1} of ${flag.sites.length}` : \"Rollout\"));\n  if (!one.rule) { box.append(make(\"p\", { class: \"soft\" }, \"Its buckets are computed from the context, so it can't be planned here.\")); return box; }\n  const counts = make(\"div\", { class: \"counts\", role: \"img\" }), users = make(\"span\", {}, \"\\u2026\");\n  const open = make(\"button\", { type: \"button\", class: \"main\", onclick: () => { location.hash = link(\"rollout\", flag.key, one.site); } }, \"Change this rollout\");\n  box.append(barOf(flag, one.rule), counts, make(\"div\", { class: \"ends soft small\" }, make(\"span\", {}, \"point 0\"), users, make(\"span\", {}, `point ${spelled(one.total - 1)}`)), make(\"div\", { class: \"row\" }, open));\n  histogram(flag.key, one, by, counts, users);\n  return box;\n}\n// The recorded users along the rule's points, in at most 200 columns.\nasync function histogram(key, one, by, place, users) {\n  try {\n    const { text } = await calmly(\"GET\", `record?flag=${encodeURIComponent(key)}&site=${one.site}`);\n    const [, head, ...points] = text.trimEnd().split(\"\\n\").map((line) => JSON.parse(line));\n    const columns = new Array(Math.min(200, head.total)).fill(0);\n    for (const [point, n] of points) columns[Math.floor(point * columns.length / head.total)] += n;\n    const most = Math.max(1, ...columns);\n    users.textContent = `${plural(head.inputs, \"recorded user\")}, by ${by}`;\n    place.setAttribute(\"aria-label\", `${plural(head.inputs, \"recorded user\")} over the points`);\n    place.replaceChildren(...columns.map((n) => { const column = make(\"div\", { title: plural(n, \"user\") }); column.style.height = `${100 * n / most}%`; return column; }));\n  } catch (error) { users.textContent = error.message; place.remove(); }\n}\n\n// ---- a rollout\nfunction openRollout(flag, one) {\n  const names = namesOf(flag, one.rule), totals = shareOf(one.rule);\n  site = { flag, one, names, totals };\n  answer = null;\n  $(\"rollout-title\").textContent = flag.sites.length > 1 ? `Change rollout ${one.site + 1} of ${flag.key}` : `Change the rollout of ${flag.key}`;\n  $(\"rollout-flag\").textContent = flag.key;\n  $(\"rollout-flag\").href = link(\"flag\", flag.key);\n  $(\"rollout-about\").textContent = `Each user falls on one of ${plural(one.total, \"point\")}, by ${one.by == null ? \"the flag's key and the targeting key\" : one.by}.`;\n  $(\"total-rows\").replaceChildren(...names.map((name, i) => make(\"tr\", {},\n    make(\"th\", { scope: \"row\" }, make(\"span\", { class: `swatch ${shade(names, name)}` }), name, make(\"span\", { class: \"narrow soft small\" }, ` now ${spelled(totals.get(name) || 0)}`)), number(totals.get(name) || 0, \"wide\"),\n    cell(make(\"input\", { type: \"number\", min: 0, max: one.total, value: totals.get(name) || 0, id: `total-${i}`, \"aria-label\": `points of ${name}`, oninput: () => change(i) })),\n    make(\"td\", { class: \"slide\" }, make(\"input\", { type: \"range\", min: 0, max: one.total, value: totals.get(name) || 0, id: `slide-${i}`, \"aria-label\": `points of ${name}`, oninput: (event) => { $(`total-${i}`).value = event.target.value; change(i); } })),\n    cell(make(\"label\", {}, make(\"input\", { type: \"checkbox\", id: `keep-${i}`, \"aria-label\": `nobody loses ${name}`, onchange: () => keep(i) }), make(\"span\", { class: \"narrow small\" }, \" nobody loses it\"))))));\n  grid(\"forbid\", names, (i, j) => make(\"input\", { type: \"checkbox\", id: `forbid-${i}-${j}`, \"aria-label\": `not allowed: ${names[i]} to ${names[j]}`, onchange: () => { $(`keep-${i}`).checked = names.every((_, k) => k === i || $(`forbid-${i}-${k}`).checked); later(); } }));\n  grid(\"prices\", names, (i, j) => make(\"input\", { type: \"number\", min: 0, max: 1000000, id: `price-${i}-${j}`, \"aria-label\": `price of ${names[i]} to ${names[j]}`, oninput: later }));\n  $(\"price\").value = 1;\n  $(\"step-list\").replaceChildren();\n  clear();\n  show(\"rollout\", \"rollout-title\");\n  later();\n}\nfunction grid(id, names, field) {\n  $(id).replaceChildren(make(\"thead\", {}, make(\"tr\", {}, make(\"th\", { scope: \"col\" }, \"From \\\\ to\"), ...names.map((name) => make(\"th\", { scope: \"col\" }, name)))),\n    make(\"tbody\", {}, ...names.map((name, i) => make(\"tr\", {}, make(\"th\", { scope: \"row\" }, name), ...names.map((_, j) => cell(i === j ? null : field(i, j)))))));\n}\nfunction keep(i) {\n  site.names.forEach((_, j) => { if (j !== i) $(`forbid-${i}-${j}`).checked = $(`keep-${i}`).checked; });\n  later();\n}\n// What one field takes, the others give: from the largest on, so that the sum stays.\nfunction change(i) {\n  const { one, names } = site;\n  const value = (j) => Math.max(0, Math.min(one.total, Math.round(Number($(`total-${j}`).value) || 0)));\n  let over = names.reduce((sum, _, j) => sum + value(j), 0) - one.total;\n  const others = names.map((_, j) => j).filter((j) => j !== i).sort((a, b) => value(b) - value(a));\n  for (const j of others) {\n    const next = Math.max(0, Math.min(one.total, value(j) - over));\n    over -= value(j) - next;\n    $(`total-${j}`).value = next;\n    if (over === 0) break;\n  }\n  if (over !== 0) $(`total-${i}`).value = value(i) - over;\n  names.forEach((_, j) => { $(`slide-${j}`).value = $(`total-${j}`).value; });\n  later();\n}\nfunction wantedNow() {\n  return site.names.map((_, i) => Number($(`total-${i}`).value) || 0);\n}\nfunction request(wanted) {\n  const { flag, one, names } = site;\n  const totals = Object.fromEntries(names.map((name, i) => [name, wanted[i]]).filter(([name, n]) => n || site.totals.has(name)));\n  const asked = { plan: 1, flag: flag.key, site: one.site, totals };\n  if ($(\"price\").value !== \"\" && Number($(\"price\").value) !== 1) asked.price = Number($(\"price\").value);\n  const prices = [], forbid = [];\n  names.forEach((from, i) => names.forEach((end, j) => {\n    if (i === j) return;\n    if ($(`forbid-${i}-${j}`).checked) forbid.push([from, end]);\n    if ($(`price-${i}-${j}`).value !== \"\") prices.push([from, end, Number($(`price-${i}-${j}`).value)]);\n  }));\n  if (prices.length) asked.prices = prices;\n  if (forbid.length) asked.forbid = forbid;\n  return asked;\n}\nfunction later() {\n  $(\"sum\").textContent = `${spelled(wantedNow().reduce((sum, n) => sum + n, 0))} of ${plural(site.one.total, \"point\")}`;\n  $(\"result\").setAttribute(\"aria-busy\", \"true\");\n  turn += 1;\n  clearTimeout(timer);\n  timer = setTimeout(plan, PAUSE);\n}\n// One plan is asked for at a time; what changes meanwhile is planned after it.\nlet planning = false, finished = 0;\nasync function plan() {\n  if (planning) return;\n  planning = true;\n  while (site && finished !== turn) {\n    const mine = turn;\n    try {\n      const reply = await planOf(request(wantedNow()));\n      if (mine === turn) planned(reply);\n    } catch (error) { if (mine === turn) unplanned(error); }\n    finished = mine;\n  }\n  planning = false;\n}\nfunction buttons(ready) {\n  for (const id of [\"download\", \"show-diff\"]) $(id).disabled = !ready;\n  $(\"copy-plan\").disabled = !answer;\n  $(\"change\").hidden = true;\n  $(\"copied\").textContent = \"\";\n}\nfunction clear() {\n  answer = null;\n  buttons(false);\n  for (const id of [\"switch-table\", \"picture-place\", \"words-fold\"]) $(id).hidden = true;\n  $(\"figures\").replaceChildren();\n  for (const id of [\"outcome\", \"passed\"]) $(id).textContent = \"\";\n}\nfunction unplanned(error) {\n  clear();\n  $(\"result\").setAttribute(\"aria-busy\", \"false\");\n  $(\"outcome\").textContent = error.message;\n  $(\"outcome\").className = \"bad\";\n}\nconst figure = (value, text, second) => make(\"div\", { class: second ? \"second\" : \"\" }, make(\"b\", {}, value), make(\"span\", { class: \"soft\" }, text));\n// Why no rule fits: what the service says of it, without the line that names the request.\nconst noRule = ({ explained }) => `No rule can: ${explained.trimEnd().split(\"\\n\").slice(1).map((line) => line.trim()).join(\"; \")}.`;\n// What no other rule does better: where each change costs the same, the cost is the number of those who switch.\nconst least = ({ token: { request: asked } }) => (\"prices\" in asked || \"price\" in asked ? \"No rule that fits costs less.\" : \"No rule that fits switches fewer.\");\nfunction showPicture(image, text, alt) {\n  if (image.src) URL.revokeObjectURL(image.src);\n  if (text) { image.src = URL.createObjectURL(new Blob([text], { type: \"image/svg+xml\" })); image.alt = alt; }\n}\n// Whether the obvious edit, which gives each variant one block in the order of the rule, makes a change that is not allowed.\nfunction isForbiddenByHand(reply) {\n  const totals = shareOf(reply.plan.rule), forbid = new Set((reply.token.request.forbid || []).map((pair) => JSON.stringify(pair)));\n  const names = [...new Set([...site.one.rule, ...reply.plan.rule].map(([name]) => name))];\n  const after = names.map((name) => [name, totals.get(name) || 0]).filter(([, n]) => n);\n  for (let i = 0, j = 0, before = 0, end = 0; i < site.one.rule.length && j < after.length; ) {\n    const [from, n] = site.one.rule[i], [to, m] = after[j], next = Math.min(before + n, end + m);\n    if (next > Math.max(before, end) && forbid.has(JSON.stringify([from, to]))) return true;\n    if (before + n === next) { before += n; i += 1; }\n    if (end + m === next) { end += m; j += 1; }\n  }\n  return false;\n}\nfunction planned(reply) {\n  answer = reply;\n  if (reply.snapshot !== snapshot) $(\"message\").replaceChildren(\"The flags have changed since they were read here. \", make(\"button\", { type: \"button\", onclick: load }, \"Read them again\"));\n  const fits = hasRule(reply);\n  $(\"result\").setAttribute(\"aria-busy\", \"false\");\n  buttons(fits && reply.document != null);\n  const hand = !fits || reply.by_hand == null ? null : `would switch if you edited it by hand${isForbiddenByHand(reply) ? \", also in ways that are not allowed\" : \"\"}`;\n  $(\"figures\").replaceChildren(...(fits ? [figure(spelled(reply.switch), `of ${plural(reply.inputs, \"recorded user\")} switch`), ...(hand ? [figure(spelled(reply.by_hand), hand, true)] : []),\n    ...(reply.plan.cost === reply.switch ? [] : [figure(spelled(reply.plan.cost), \"is what they cost\", true)])] : []));\n  $(\"outcome\").className = fits ? \"soft\" : \"bad\";\n  $(\"outcome\").replaceChildren(...(fits\n    ? [make(\"span\", { class: \"sr\" }, `${spelled(reply.switch)} of ${plural(reply.inputs, \"recorded user\")} switch${hand ? `; ${spelled(reply.by_hand)} ${hand}` : \"\"}. `), least(reply)]\n    : [noRule(reply)]));\n  const passed = reply.passed_over || [];\n  $(\"passed\").textContent = [reply.inputs === 0 ? \"Nobody is recorded here, so this says nothing of who switches.\" : \"\", passed.length ? `Not counted, as they are compressed: ${passed.join(\", \")}.` : \"\"].filter(Boolean).join(\" \");\n  $(\"words-fold\").hidden = !reply.explained;\n  $(\"words\").textContent = reply.explained;\n  $(\"switch-rows\").replaceChildren(...reply.switches.map((row) => make(\"tr\", {}, cell(make(\"span\", { class: `swatch ${shade(site.names, row.from)}` }), row.from), cell(make(\"span\", { class: `swatch ${shade(site.names, row.to)}` }), row.to), number(row.inputs))));\n  $(\"switch-table\").hidden = reply.switches.length === 0;\n  $(\"picture-place\").hidden = !reply.picture;\n  showPicture($(\"picture\"), reply.picture, $(\"outcome\").textContent);\n}\n// A part of the way, in whole points: the largest remainders are rounded up.\nfunction partOf(percent) {\n  const now = site.names.map((name) => site.totals.get(name) || 0), end = wantedNow();\n  const exact = now.map((n, i) => n + (end[i] - n) * percent / 100), low = exact.map(Math.floor);\n  const order = exact.map((n, i) => [n - low[i], i]).sort((a, b) => b[0] - a[0] || a[1] - b[1]);\n  for (let left = site.one.total - low.reduce((sum, n) => sum + n, 0), k = 0; left > 0; left -= 1, k += 1) low[order[k % order.length][1]] += 1;\n  return low;\n}\nasync function steps() {\n  const percents = $(\"percents\").value.split(/[\\s,;]+/).map(Number).filter((part) => part > 0 && part <= 100).slice(0, 16);\n  const found = [], mine = site;\n  $(\"steps\").disabled = true;\n  for (const percent of percents) {\n    const wanted = partOf(percent), points = site.names.map((name, i) => `${name} ${spelled(wanted[i])}`).join(\", \");\n    let text, reply = null;\n    try {\n      reply = await planOf(request(wanted));\n      text = hasRule(reply) ? `${spelled(reply.switch)} of ${plural(reply.inputs, \"user\")} switch${reply.by_hand == null ? \"\" : `, by hand ${spelled(reply.by_hand)}`}${reply.plan.cost === reply.switch ? \"\" : `, cost ${spelled(reply.plan.cost)}`}` : noRule(reply);\n    } catch (error) { text = error.message; }\n    if (mine !== site) break;\n    const fold = make(\"details\", {}, make(\"summary\", {}, `${percent} percent: ${text}`), make(\"p\", { class: \"soft small\" }, points));\n    if (reply && reply.picture) { const image = make(\"img\", { class: \"picture\" }); showPicture(image, reply.picture, text); fold.append(make(\"div\", { class: \"scroll\", tabindex: 0, role: \"group\", \"aria-label\": \"Picture\" }, image)); }\n    found.push(fold);\n  }\n  $(\"steps\").disabled = false;\n  if (mine === site) $(\"step-list\").replaceChildren(...(found.length ? found : [make(\"p\", { class: \"bad small\" }, \"Give percentages from 1 to 100.\")]));\n}\n\n// ---- what a person takes along\nasync function copy(text, what) {\n  try { await navigator.clipboard.writeText(text); $(\"copied\").textContent = `${what} is copied.`; } catch { $(\"copied\").textContent = `${what} can't be copied here.`; }\n}\nconst quotedWord = (text) => `'${text.replaceAll(\"'\", \"'\\\\''\")}'`;\nfunction commandLine() {\n  const { flag, one } = site, base = location.origin, curl = $(\"key\").value ? 'curl -s -H \"Authorization: Bearer $KEY\"' : \"curl -s\";\n  return [`${curl} ${base}/snapshot > snapshot.json`, `${curl} ${quotedWord(`${base}/record?flag=${encodeURIComponent(flag.key)}&site=${one.site}`)} > tally.jsonl`,\n    `printf %s ${quotedWord(JSON.stringify(request(wantedNow())))} > request.json`, \"flagops plan --floats --explain snapshot.json request.json tally.jsonl\"].join(\"\\n\");\n}\nconst fileName = (path) => path.replace(/^.*\\//, \"\");\nconst documentName = () => (sources.length === 1 ? fileName(sources[0]) : \"flags.json\");\nfunction download() {\n  const to = make(\"a\", { href: URL.createObjectURL(new Blob([answer.document], { type: \"application/json\" })), download: documentName() });\n  document.body.append(to);\n  to.click();\n  to.remove();\n  setTimeout(() => URL.revokeObjectURL(to.href), 1000);\n}\n// The lines that differ, between equal ones before and after; of long lines what differs, with some of what is equal around it.\nfunction difference(before, after) {\n  const one = before.split(\"\\n\"), other = after.split(\"\\n\");\n  const [head, tail] = equalEnds(one, other);\n  const [start, end] = [one, other].some((lines) => lines.slice(head, lines.length - tail).some((line) => line.length > LONG)) ? equalEnds(one[head] || \"\", other[head] || \"\") : [0, 0];\n  const cut = (line, from, rest) => (from > AROUND ? \"\\u2026\" : \"\") + line.slice(Math.max(0, from - AROUND), rest > AROUND ? line.length - rest + AROUND : line.length) + (rest > AROUND ? \"\\u2026\" : \"\");\n  const marked = (lines, sign, kind) => lines.map((line, i) => make(\"span\", { class: kind }, `${sign} ${kind ? cut(line, i ? 0 : start, i ? 0 : end) : cut(line, 0, Math.max(0, line.length - LONG))}`));\n  return [...marked(one.slice(Math.max(0, head - 2), head), \" \", \"\"), ...marked(one.slice(head, one.length - tail), \"-\", \"gone\"), ...marked(other.slice(head, other.length - tail), \"+\", \"added\"),\n    ...marked(one.slice(one.length - tail, one.length - tail + 2), \" \", \"\")];\n}\n// How many items are equal at the beginning, and at the end, of two lists.\nfunction equalEnds(one, other) {\n  const most = Math.min(one.length, other.length);\n  let head = 0, tail = 0;\n  while (head < most && one[head] === other[head]) head += 1;\n  while (tail < most - head && one[one.length - 1 - tail] === other[other.length - 1 - tail]) tail += 1;\n  return [head, tail];\n}\nasync function showDifference() {\n  const mine = answer;\n  try {\n    const { text } = await call(\"GET\", \"snapshot\");\n    if (mine !== answer) return;\n    $(\"diff\").replaceChildren(...(text === answer.document ? [make(\"span\", {}, \"Nothing changes.\")] : difference(text, answer.document)));\n    $(\"change\").hidden = false;\n    $(\"apply\").disabled = !mayApply;\n    const alone = [\"This service does not write documents: download the new one, or start it with \", make(\"span\", { class: \"whole\" }, \"--allow-apply\"), \".\"];\n    $(\"apply-why\").replaceChildren(...(mayApply ? [] : sources.length === 1 ? alone : [`The new document has the flags of all ${sources.length} documents: put the rule into the one that has this flag.`]));\n    $(\"change\").scrollIntoView({ block: \"nearest\" });\n  } catch (error) { say(error.message, true); }\n}\nfunction askApply() {\n  $(\"sure-text\").textContent = `The document ${documentName()} is written with the new rule of ${site.flag.key}. ${plural(answer.switch, \"recorded user\")} will get another variant.`;\n  $(\"sure\").showModal();\n}\nasync function apply() {\n  $(\"sure\").close();\n  try {\n    // A field's value is bytes: those of the name in UTF-8. A login in front of the service puts its own in place of it.\n    const who = String.fromCharCode(...new TextEncoder().encode($(\"who\").value.trim()));\n    await call(\"POST\", \"apply\", JSON.stringify(answer.token), who ? { From: who } : {});\n    history.pushState(null, \"\", \"#history\");\n    route();\n    say(\"The document is written. The service serves it once it has read it.\");\n    const old = snapshot;\n    for (let looks = 0; looks < TRIES && snapshot === old; looks += 1) {\n      await new Promise((go) => setTimeout(go, 500));\n      await read();\n    }\n    if (snapshot !== old && $(\"message\").textContent) say(`The document is written, and served as snapshot ${snapshot}.`);\n  } catch (error) { say(error.message, true); scrollTo(0, 0); }\n}\n\n// ---- history\nasync function openHistory() {\n  show(\"history\", \"history-title\");\n  $(\"history-card\").hidden = true;\n  try {\n    const rows = JSON.parse((await call(\"GET\", \"history\")).text);\n    $(\"history-rows\").replaceChildren(...rows.map((row) => make(\"tr\", {}, cell(make(\"time\", { datetime: row.time }, ...row.time.replace(/(\\.\\d+)?Z$/, \" UTC\").split(/T(?=\\d)/).flatMap((part, i) => [i ? \" \" : null, make(\"span\", { class: \"whole\" }, part)]))),\n      cell(make(\"a\", { href: link(\"flag\", row.flag) }, row.flag), row.site ? ` (rollout ${row.site + 1})` : \"\", make(\"div\", { class: \"soft small\" }, changeOf(row), row.who ? make(\"span\", { class: \"narrow\" }, `, by ${row.who}`) : null)),\n      make(\"td\", { class: \"n\" }, make(\"span\", { class: \"narrow soft small\" }, \"cost \"), spelled(row.cost)), number(row.inputs, \"wide\"), wide(row.who || \"not said\"),\n      cell(make(\"button\", { type: \"button\", onclick: (event) => goingBack(row, event.target) }, \"What would it switch?\")))));\n    $(\"history-table\").hidden = rows.length === 0;\n    $(\"history-none\").hidden = rows.length > 0;\n    $(\"history-card\").hidden = false;\n  } catch (error) { say(error.message, true); }\n}\n// How many points each variant had, and has.\nfunction changeOf({ old, new: rule }) {\n  const before = shareOf(old), after = shareOf(rule);\n  return [...new Map([...before, ...after]).keys()].map((name) => `${name} ${spelled(before.get(name) || 0)} \\u2192 ${spelled(after.get(name) || 0)}`).join(\", \");\n}\n// What a plan towards the old totals would switch now.\nasync function goingBack(row, button) {\n  const totals = Object.fromEntries([...[...shareOf(row.new).keys()].map((name) => [name, 0]), ...shareOf(row.old)]);\n  button.disabled = true;\n  let text;\n  try {\n    const reply = await planOf({ plan: 1, flag: row.flag, site: row.site, totals });\n    text = hasRule(reply) ? `Going back would switch ${spelled(reply.switch)} of ${plural(reply.inputs, \"user\")}.` : noRule(reply);\n  } catch (error) { text = error.message; }\n  button.replaceWith(make(\"span\", { role: \"status\" }, text));\n}\n\n// ---- evaluations a minute, by reason\nasync function rates() {\n  try {\n    const { text } = await call(\"GET\", \"metrics\");\n    const now = new Map([...text.matchAll(/^ofrep_evaluations_total\\{reason=\"([^\"]+)\"\\} (\\d+)$/gm)].map(([, reason, n]) => [reason, Number(n)])), at = Date.now();\n    if (counted) {\n      const grown = [...now].map(([reason, n]) => [reason, Math.round((n - (counted.now.get(reason) || 0)) * 60000 / (at - counted.at))]).filter(([, n]) => n > 0);\n      $(\"rates\").textContent = grown.length ? `A minute: ${grown.map(([reason, n]) => `${reason} ${spelled(n)}`).join(\", \")}` : \"\";\n    }\n    counted = { now, at };\n  } catch { $(\"rates\").textContent = \"\"; }\n  setTimeout(rates, RATE_SECONDS * 1000);\n}\n\n$(\"search\").addEventListener(\"input\", () => { shown = PAGE; list(); });\n$(\"more\").addEventListener(\"click\", () => { shown += PAGE; list(); });\n$(\"price\").addEventListener(\"input\", () => later());\n$(\"form\").addEventListener(\"submit\", (event) => event.preventDefault());\n$(\"steps\").addEventListener(\"click\", steps);\n$(\"copy-request\").addEventListener(\"click\", () => copy(JSON.stringify(request(wantedNow())), \"The request\"));\n$(\"copy-plan\").addEventListener(\"click\", () => copy(JSON.stringify(answer.plan), \"The plan\"));\n$(\"copy-line\").addEventListener(\"click\", () => copy(commandLine(), \"The command line\"));\n$(\"download\").addEventListener(\"click\", download);\n$(\"show-diff\").addEventListener(\"click\", showDifference);\n$(\"apply\").addEventListener(\"click\", askApply);\n$(\"apply-yes\").addEventListener(\"click\", apply);\n$(\"apply-no\").addEventListener(\"click\", () => $(\"sure\").close());\n$(\"key\").addEventListener(\"change\", load);\ndocument.querySelector(\".skip\").addEventListener(\"click\", (event) => { event.preventDefault(); $(\"main\").focus(); });\naddEventListener(\"hashchange\", route);\nload();\nrates();\n</script>\n</body>\n</html>\n"

abbrev pub policy_text : List ℕ
policy_text = codes "default-src 'none'; style-src 'sha256-63tBB5HS5MzeLdZWP2cKHHWrb5XqWAkOjvvGUvjeLgw='; script-src 'sha256-kpi9RIHiaMIRRlHa0Hv7pG1NHvcGGXxguSEcqroEc2Q='; connect-src 'self'; img-src blob: data:; base-uri 'none'; form-action 'none'; frame-ancestors 'none'"
